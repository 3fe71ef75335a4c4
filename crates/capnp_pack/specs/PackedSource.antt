-- Which packed requests are given, and which ones fail and with which kind.
use Rattle.std.specs.Prelude.{◌≡◌, ◌≢◌, ℕ, ◌+◌, ◌-◌, ◌%◌, ◌<◌, ◌≤◌, ◌⊎◌, List, [], ◌∷◌, ◌++◌, length, Option, Result, IfErr}
use Rattle.std.specs.List.{concat, AllByRecursion}
use Rattle.capnp_frame.specs.declared.error.Error.{Error}
use Rattle.capnp_frame.specs.declared.error.ErrorKind.{ErrorKind}
use Rattle.capnp_frame.specs.declared.error.ErrorKind.TheVariants.{FailedToFillTheWholeBuffer, PrematureEndOfPackedInput, PackedInputDidNotEndCleanlyOnASegmentBoundary, NotWholeWords}
use Rattle.capnp_frame.specs.Prelude.{Unless, Giving, Refusing, IfKnown}
use Rattle.capnp_pack.specs.Group.{Group, tagged, zeros, literal, IsGroup, group_words, marked}
use Rattle.capnp_pack.specs.Chunk.{IsChunk, encoding_of, words_of_groups}

-- a packed request takes a chunk of n bytes
abbrev pub Unpacks : Giving
Unpacks raw n bytes rest = (encoding : List ℕ) × IsChunk encoding bytes × (raw ≡ encoding ++ rest) × (length bytes ≡ n)

-- A group's encoding is its head and, after the count of a literal group, its run.
abbrev pub head_encoding : Group → List ℕ
head_encoding (tagged tag word) = tag ∷ marked tag word
head_encoding (zeros further) = 0 ∷ further ∷ []
head_encoding (literal word further) = 255 ∷ word ++ length further ∷ []

abbrev pub run_encoding : Group → List ℕ
run_encoding (tagged tag word) = []
run_encoding (zeros further) = []
run_encoding (literal word further) = concat further

-- how many bytes a group's words have
abbrev pub group_size : Group → ℕ
group_size group = length (concat (group_words group))

-- A group is cut in its head, or missing: a marked byte, a count or the group isn't there.
pub record IsHeadCut (left : List ℕ) : Type 0 where
  pub group : Group
  pub is : IsGroup group
  pub missing : List ℕ
  pub some : 0 < length missing
  pub spelled : left ++ missing ≡ head_encoding group

-- a group's head is at the front
pub record IsHeadAt (group : Group) (left following : List ℕ) : Type 0 where
  pub is : IsGroup group
  pub spelled : left ≡ head_encoding group ++ following

-- its count is larger than what is still asked for
pub record Overruns (n : ℕ) (left : List ℕ) : Type 0 where
  pub group : Group
  pub following : List ℕ
  pub head : IsHeadAt group left following
  pub long : n < group_size group

-- its count isn't, and the run is cut
pub record IsRunCut (n : ℕ) (left : List ℕ) : Type 0 where
  pub group : Group
  pub following : List ℕ
  pub head : IsHeadAt group left following
  pub fits : group_size group ≤ n
  pub short : length following < length (run_encoding group)

-- no group can be taken here, where n bytes are still asked for
abbrev pub GroupError : List ℕ → ℕ → ErrorKind → Type 0
GroupError left n kind = (IsHeadCut left × (kind ≡ PrematureEndOfPackedInput))
    ⊎ (Overruns n left × (kind ≡ PackedInputDidNotEndCleanlyOnASegmentBoundary))
    ⊎ (IsRunCut n left × (kind ≡ FailedToFillTheWholeBuffer))

-- The first error: the groups before it are whole, and have fewer bytes than are asked for.
pub record PackedError (raw : List ℕ) (n : ℕ) (kind : ErrorKind) : Type 0 where
  pub groups : List Group
  pub each : AllByRecursion IsGroup groups
  pub left : List ℕ
  pub spelled : raw ≡ encoding_of groups ++ left
  pub fewer : length (concat (words_of_groups groups)) < n
  pub error : GroupError left (n - length (concat (words_of_groups groups))) kind

-- Where a count is larger than what is still asked for of n bytes, only the groups before it and
-- the head of its group are consumed.
pub record LeavesOverrun (n : ℕ) (raw left : List ℕ) : Type 0 where
  pub groups : List Group
  pub each : AllByRecursion IsGroup groups
  pub fewer : length (concat (words_of_groups groups)) < n
  pub group : Group
  pub is : IsGroup group
  pub long : n < length (concat (words_of_groups groups)) + group_size group
  pub spelled : raw ≡ encoding_of groups ++ (head_encoding group ++ left)

-- where a call fails by such a count, `leaves` relates what was unread before it and after it
abbrev pub Overran : {X : Type 0} → Result X Error → Option (List ℕ) → Option (List ℕ) → (List ℕ → List ℕ → Type 0) → Type 0
Overran result old new leaves = IfErr result (λ error. error.kind ≡ PackedInputDidNotEndCleanlyOnASegmentBoundary → IfKnown old new leaves)

-- a packed request fails: the lines of the table of a chunk (docs/FORMAT.md, "Packed requests")
abbrev pub ChunkError : Refusing
ChunkError raw n kind =
    Unless (n % 8 ≢ 0) (kind ≡ NotWholeWords) (
    Unless (raw ≡ []) ((0 < n) × (kind ≡ FailedToFillTheWholeBuffer)) (
    PackedError raw n kind))
