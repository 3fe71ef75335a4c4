-- A struct is written at its start.
use Rattle.std.proofs.Common.{length, refl, arith}
use Rattle.capnp_orphans.proofs.WrittenBlockIsOrphanLemmas.{written_struct_children}
use Rattle.capnp_orphans.proofs.objects.sized_struct.SizedStructObject.write.Goals as goal

pub returns : goal.returns
returns c body start_is =
    let words = c.args.self.now.words.now in
    let adopted = c.args.self.now.pointers.now in
    written_struct_children body words adopted c.put_struct.new.block c.args.start (length c.args.self.now.words.now) (length c.args.self.now.pointers.now) c.struct_orphan.result start_is refl refl
    c.requires.takes.0.0 c.requires.takes.0.1 c.words_fit.ensures (omega (arith, c.requires.few, c.requires.takes.1)) c.put_struct.ensures.words c.struct_orphan.ensures
