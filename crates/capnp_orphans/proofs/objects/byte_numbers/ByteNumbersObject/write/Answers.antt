-- A list of numbers is written at its start.
use Rattle.std.proofs.Common.{◌∙◌, ◌/◌, ◌%◌, ◌^◌, ℕ, length, ap, arith}
use Rattle.capnp_layout.specs.Prelude.{code_of, list_pointer, number_of, digits}
use Rattle.capnp_orphans.proofs.NumbersInBytesAsOrphanLemmas.{numbers_written, bytes_have_room}
use Rattle.capnp_orphans.proofs.objects.byte_numbers.ByteNumbersObject.write.Goals as goal

pub overflow_cast-count : goal.overflow_cast-count
overflow_cast-count c =
    let room = bytes_have_room (code_of c.args.self.now.size) c.args.self.now.count c.args.self.now.bytes.now c.args.block.now c.args.self.now.full c.requires.takes c.requires.whole in
    record { fits = omega (arith, room.0) }

pub put_bits-requires-clause-room : goal.put_bits-requires-clause-room
put_bits-requires-clause-room c =
    (bytes_have_room (code_of c.args.self.now.size) c.args.self.now.count c.args.self.now.bytes.now c.args.block.now c.args.self.now.full c.requires.takes c.requires.whole).1

pub list_word-requires-clause-count : goal.list_word-requires-clause-count
list_word-requires-clause-count c =
    (bytes_have_room (code_of c.args.self.now.size) c.args.self.now.count c.args.self.now.bytes.now c.args.block.now c.args.self.now.full c.requires.takes c.requires.whole).0

pub returns : goal.returns
returns c body start_is =
    let list = c.args.self.now in
    numbers_written (code_of c.args.self.now.size) c.args.self.now.count body c.args.self.now.bytes.now c.put_bits.new.block c.args.start (length c.args.block.now / 8) c.list_word.result start_is
    c.requires.takes c.requires.few
    (c.put_bits.ensures.words ∙ ap (λ (k : ℕ). digits (2 ^ 64) (length c.args.block.now / 8) (number_of 256 c.args.self.now.bytes.now % 2 ^ k)) c.bits_of_list-bits.ensures.bits)
    (c.list_word.ensures ∙ ap (λ (k : ℕ). list_pointer c.args.start k c.args.self.now.count) c.code.ensures.code)
