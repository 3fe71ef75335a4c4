-- The structs so far are put.
use Rattle.std.proofs.Common.{◌≡◌, ◌*◌, ◌+◌, take}
use Rattle.capnp_layout.specs.Prelude.{words_of, put}
use Rattle.capnp_orphans.specs.Holds.{element_words, AreSized}
use Rattle.capnp_orphans.specs.Sized.{drafts_in}
use Rattle.capnp_orphans.proofs.objects.sized_struct_list.put_elements.Given as goal

abbrev pub invariant-loop-index : goal.invariant-loop-index
invariant-loop-index l = record {
  at_is : l.at ≡ l._index * (l.fn.size.data_words + l.fn.size.pointers);
  sized : AreSized (take l._index (drafts_in l.fn.size.data_words l.fn.size.pointers l.count l.elements));
  words_are : words_of l.block ≡ put 0 (element_words (take l._index (drafts_in l.fn.size.data_words l.fn.size.pointers l.count l.elements)) l.place) (words_of l.fn.block);
}
