-- A chunk: groups, one after another. Encoding document, "Packing".
use Rattle.std.specs.Prelude.{◌≡◌, ℕ, List}
use Rattle.std.specs.List.{flat_map, concat, AllByRecursion}
use Rattle.capnp_pack.specs.Group.{Group, IsGroup, group_encoding, group_words}

abbrev pub encoding_of : List Group → List ℕ
encoding_of groups = flat_map group_encoding groups

abbrev pub words_of_groups : List Group → List (List ℕ)
words_of_groups groups = flat_map group_words groups

-- `encoding` is the encodings of some groups, joined, and `bytes` are their words, joined.
pub record IsChunk (encoding bytes : List ℕ) : Type 0 where
  pub groups : List Group
  pub each : AllByRecursion IsGroup groups
  pub spelled : encoding ≡ encoding_of groups
  pub unpacked : bytes ≡ concat (words_of_groups groups)
