-- A struct is written at its start.
use Rattle.std.proofs.Common.{arith}
use Rattle.capnp_orphans.proofs.WrittenBlockIsOrphanLemmas.{written_struct_children}
use Rattle.capnp_orphans.proofs.draft.writing.StructDraftObject.write.Goals as goal

pub returns : goal.returns
returns g c body start_is =
    written_struct_children body c.args.self.now.words c.args.self.now.pointers c.put_struct.new.block c.args.start g.row.D g.row.P c.struct_orphan.result start_is c.draft_fits.ensures.words
    c.draft_fits.ensures.pointers c.requires.takes.0.0 c.requires.takes.0.1 c.draft_fits.ensures.few (omega (arith, c.requires.few, c.requires.takes.1)) c.put_struct.ensures.words c.struct_orphan.ensures
