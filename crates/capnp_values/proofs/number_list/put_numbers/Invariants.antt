-- The words so far are put.
use Rattle.std.proofs.Common.{◌≡◌, ◌^◌, length, map, take}
use Rattle.capnp_layout.specs.Prelude.{digits, number_of, words_of, put, width, words_for}
use Rattle.capnp_values.proofs.number_list.put_numbers.Given as goal

abbrev pub invariant-loop-index : goal.invariant-loop-index
invariant-loop-index g l =
    words_of l.block
    ≡ put 0 (take l.index (digits (2 ^ 64) (words_for (length l.items) (width g.N.PrimitiveElement.code)) (number_of (2 ^ width g.N.PrimitiveElement.code) (map g.N.PrimitiveElement.bits_of l.items)))) (words_of l.fn.block)
