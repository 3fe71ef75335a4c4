-- A value is written at its start.
use Rattle.std.proofs.Common.{◌/◌, length, refl, arith}
use Rattle.capnp_layout.specs.Prelude.{count}
use Rattle.capnp_layout.proofs.words.WordsOfBytesLemmas.{length-words_of}
use Rattle.capnp_wire.proofs.layouts.ZeroFreePartLemmas.{free_block}
use Rattle.capnp_wire.proofs.layouts.NullAndNumbersWrittenLemmas.{has_room}
use Rattle.capnp_orphans.proofs.WrittenBlockIsOrphanLemmas.{value_written, value_children}
use Rattle.capnp_orphans.proofs.value.ValueObject.write.Goals as goal

pub write-copied-requires-clause-value : goal.write-copied-requires-clause-value
write-copied-requires-clause-value g c =
    has_room (g.V.SetterInput.has_tree c.args.self.now.value.now) _ (length c.args.block.now / 8) _ c.requires.takes (omega (arith, length-words_of c.args.block.now))

pub write-copied-requires-clause-free : goal.write-copied-requires-clause-free
write-copied-requires-clause-free g c =
    free_block c.args.block.now c.requires.whole (omega (arith, length-words_of c.args.block.now, c.requires.few)) (c.requires.zero refl)

pub moved-requires-clause-pointer : goal.moved-requires-clause-pointer
moved-requires-clause-pointer g c =
    let v = value_written (g.V.SetterInput.has_tree c.args.self.now.value.now) (length c.args.block.now / 8) c.args.block.now c.write-copied.new.block c.write-copied.result c.requires.takes
    (λ trees is. g.met.V.SetterInput.one c.args.self.now.value.now trees is) (omega (arith, length-words_of c.args.block.now)) c.write-copied.ensures.written c.write-copied.ensures.long in
    (v.form, count v.children, v.rooms.0, v.pointer_is)

pub returns : goal.returns
returns g c body start_is =
    let v = value_written (g.V.SetterInput.has_tree c.args.self.now.value.now) (length c.args.block.now / 8) c.args.block.now c.write-copied.new.block c.write-copied.result c.requires.takes
    (λ trees is. g.met.V.SetterInput.one c.args.self.now.value.now trees is) (omega (arith, length-words_of c.args.block.now)) c.write-copied.ensures.written c.write-copied.ensures.long in
    value_children (g.V.SetterInput.has_tree c.args.self.now.value.now) body c.write-copied.new.block c.args.start (length c.args.block.now / 8) c.moved.result c.write-copied.result.pointer v start_is
    (omega (arith, c.requires.few)) c.moved.ensures
