-- The words so far are the words of the chunks so far.
use Rattle.std.proofs.Common.{◌≡◌, map, take}
use Rattle.capnp_layout.specs.Prelude.{number_of, put, word_numbers}
use Rattle.capnp_layout.proofs.block.WordBlockItem.put_bytes.Given as goal

abbrev pub invariant-loop-index : goal.invariant-loop-index
invariant-loop-index l =
    (word_numbers l.block ≡ put l.at (map (number_of 256) (take l.index l.chunks)) (word_numbers l.fn.block))
