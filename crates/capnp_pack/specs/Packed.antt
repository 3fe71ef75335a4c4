-- The chunk that a packer makes: it settles what the encoding document's "Packing" leaves open.
use Rattle.std.specs.Prelude.{◌≡◌, ◌≢◌, ℕ, ◌<◌, ◌≤◌, List, [], ◌∷◌, length, ⊤}
use Rattle.std.specs.List.{concat, AllByRecursion}
use Rattle.capnp_pack.specs.Group.{Group, tagged, zeros, literal, IsGroup, zero_word, zero_bytes, marked}
use Rattle.capnp_pack.specs.Chunk.{encoding_of, words_of_groups}

-- P holds of the first of the words, if there is one
abbrev pub IfFirst : List (List ℕ) → (List ℕ → Type 0) → Type 0
IfFirst [] P = ⊤
IfFirst (word ∷ words) P = P word

-- A packer makes this group where these words follow it.
abbrev pub IsLongest : Group → List (List ℕ) → Type 0
-- no marked byte is zero
IsLongest (tagged tag word) next = AllByRecursion (λ byte. 0 < byte) (marked tag word)
-- the run takes each zero word, as far as its count goes
IsLongest (zeros further) next = further < 255 → IfFirst next (λ word. word ≢ zero_word)
-- the run takes each word of at most one zero byte, as far as its count goes, and no other
IsLongest (literal word further) next = (zero_bytes word ≡ 0)
    × AllByRecursion (λ w. zero_bytes w ≤ 1) further
    × (length further < 255 → IfFirst next (λ w. 2 ≤ zero_bytes w))

abbrev pub AreLongest : List Group → Type 0
AreLongest [] = ⊤
AreLongest (group ∷ groups) = IsLongest group (words_of_groups groups) × AreLongest groups

-- `encoding` is what a packer makes of `bytes`.
pub record Packs (bytes encoding : List ℕ) : Type 0 where
  pub groups : List Group
  pub each : AllByRecursion IsGroup groups
  pub longest : AreLongest groups
  pub spelled : encoding ≡ encoding_of groups
  pub unpacked : bytes ≡ concat (words_of_groups groups)
