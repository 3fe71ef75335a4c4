-- The structs so far are put.
use Rattle.std.proofs.Common.{◌≡◌, ◌*◌, ◌+◌, take}
use Rattle.capnp_layout.specs.Prelude.{words_of, put}
use Rattle.capnp_orphans.specs.Holds.{element_words, AreSized}
use Rattle.capnp_orphans.proofs.struct_list.put_elements.Given as goal

abbrev pub invariant-loop-index : goal.invariant-loop-index
invariant-loop-index g l = record {
  at_is : l.at ≡ l.index * (g.row.D + g.row.P);
  sized : AreSized (take l.index (g.S.DraftSource.drafts l.source));
  words_are : words_of l.block ≡ put 0 (element_words (take l.index (g.S.DraftSource.drafts l.source)) l.place) (words_of l.fn.block);
}
