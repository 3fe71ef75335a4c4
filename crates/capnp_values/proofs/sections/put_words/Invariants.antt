-- The words so far are put.
use Rattle.std.proofs.Common.{◌≡◌, take}
use Rattle.capnp_layout.specs.Prelude.{words_of, put}
use Rattle.capnp_values.proofs.sections.put_words.Given as goal

abbrev pub invariant-loop-index : goal.invariant-loop-index
invariant-loop-index l = words_of l.block ≡ put 0 (take l.index l.words) (words_of l.fn.block)
