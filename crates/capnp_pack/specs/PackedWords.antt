-- What a packer makes of words, and of the front of them.
use Rattle.std.specs.Prelude.{◌≡◌, ℕ, ◌+◌, ◌*◌, ◌≤◌, List, ◌++◌, length, take, drop, Option}
use Rattle.std.specs.List.{AllByRecursion}
use Rattle.capnp_pack.specs.declared.buffer.TheConstants.{BUFFER_BYTES}
use Rattle.capnp_pack.specs.Group.{Group, IsGroup}
use Rattle.capnp_pack.specs.Chunk.{encoding_of, words_of_groups}
use Rattle.capnp_frame.specs.Prelude.{Appending, IfKnown}
use Rattle.capnp_pack.specs.Packed.{AreLongest}
use Rattle.capnp_pack.specs.Steps.{Hands}

-- `encoding` is what a packer makes of the words
pub record PacksWords (words : List (List ℕ)) (encoding : List ℕ) : Type 0 where
  pub groups : List Group
  pub each : AllByRecursion IsGroup groups
  pub longest : AreLongest groups
  pub spelled : encoding ≡ encoding_of groups
  pub unpacked : words_of_groups groups ≡ words

-- `encoding` is what a packer makes of the words before `left`
abbrev pub PacksTo : List (List ℕ) → List ℕ → List (List ℕ) → Type 0
PacksTo words encoding left = (more : List ℕ) → PacksWords left more → PacksWords words (encoding ++ more)

-- What is kept by a step that packs the first `count` words into the buffer, after the bytes that are used of it: `end` bytes are used
-- then.
pub record PacksFront (words : List (List ℕ)) (before : List ℕ) (used : ℕ) (after : List ℕ) (count end : ℕ) : Type 0 where
  pub within : count ≤ length words
  pub fits : end ≤ BUFFER_BYTES
  -- a group has at most ten bytes
  pub few : end ≤ used + 10 * count
  pub packed : (encoding : List ℕ) × PacksTo words encoding (drop count words) × (take end after ≡ take used before ++ encoding)

-- what a packer makes of the words before `left` is handed on after the buffer's bytes `old`,
-- except for `new`, which the buffer keeps
abbrev pub HandsTo : Appending → List (List ℕ) → List (List ℕ) → List ℕ → List ℕ → Option (List ℕ) → Option (List ℕ) → Type 0
HandsTo appends words left old new before after = (encoding : List ℕ) × PacksTo words encoding left
    × IfKnown before after (Hands appends old encoding new)

-- the bytes of a buffer, followed by what a packer makes of the words
abbrev pub RestAfter : List ℕ → List (List ℕ) → List ℕ → Type 0
RestAfter buffer words encoding = (rest : List ℕ) × PacksWords words rest × (encoding ≡ buffer ++ rest)

-- the sink grants the bytes of a buffer, what a packer makes of the words, and a given number of
-- bytes more
abbrev pub GrantsTo : (ℕ → Type 0) → List (List ℕ) → ℕ → ℕ → Type 0
GrantsTo grants words used more = (rest : List ℕ) × PacksWords words rest × grants (used + (length rest + more))
