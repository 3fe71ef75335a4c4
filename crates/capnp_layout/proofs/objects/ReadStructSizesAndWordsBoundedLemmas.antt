-- A struct that is read has room for its fields: its sizes and its data words are below the bounds of their bits.
use Rattle.std.proofs.Common.{ℕ, ◌+◌, ◌<◌, ◌^◌, List, drop}
use Rattle.std.proofs.Common.{arith, length-take}
use Rattle.std.specs.Prelude.{All}
use Rattle.capnp_layout.specs.Prelude.{words_from, struct, Trees, count, places, At, HasRoom}
use Rattle.capnp_layout.specs.declared.place.Place.{Place}
use Rattle.capnp_layout.specs.declared.pointer.StructSize.{StructSize}
use Rattle.capnp_layout.proofs.objects.SectionWordByIndexLemmas.{length-places}
use Rattle.capnp_layout.proofs.trees.TraversalLimitCountLemmas.{count_at}
use Rattle.capnp_layout.proofs.trees.ReadTreeSizesAndWordsBoundedLemmas.{words_from_below}

pub struct_room : (m : List (List ℕ)) (words : List ℕ) (start : Place) (size : StructSize) (children : Trees) (inside : ℕ) → size.data_words < 2 ^ 16 → size.pointers < 2 ^ 16 → All (λ w. w < 2 ^ 64) words
    → At m (places start.segment (start.word + size.data_words) size.pointers) children inside → HasRoom (struct (words_from words start.word size.data_words)) (count children)
struct_room m words start size children inside d p all are_at = (
  omega (arith, length-take size.data_words (drop start.word words)),
  omega (arith, count_at m (places start.segment (start.word + size.data_words) size.pointers) children inside are_at, length-places start.segment (start.word + size.data_words) size.pointers),
  words_from_below words start.word size.data_words all,
)
