-- The old bits are taken out, and the new ones put in.
use Rattle.std.proofs.Common.{arith}
use Rattle.capnp_values.proofs.numbers.DataFieldSetLemmas.{put_in_word, set_whole_word, with_bits_below}
use Rattle.capnp_values.proofs.data_section.put_bits.Goals as goal

pub returns-then-width-eq64 : goal.returns-then-width-eq64
returns-then-width-eq64 c =
    let a = c.args in set_whole_word a.word a.start a.width a.bits (omega arith) c.if-width-eq64.true (omega arith)

pub overflow_add-result : goal.overflow_add-result
overflow_add-result c =
    let a = c.args in
    let same = put_in_word a.word a.start a.width a.bits (omega arith) (omega arith) (omega arith) c.requires.few in
    let below = with_bits_below a.word a.start a.width a.bits 64 (omega arith) (omega arith) c.requires.few in
    omega arith

pub returns : goal.returns
returns c = let a = c.args in put_in_word a.word a.start a.width a.bits (omega arith) (omega arith) (omega arith) c.requires.few
