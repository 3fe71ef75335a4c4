-- The first pointers are copied.
use Rattle.capnp_wire.specs.Prelude.{struct_of}
use Rattle.capnp_orphans.proofs.PointersCopiedUntilErrorLemmas.{ArePointersCopied}
use Rattle.capnp_orphans.proofs.copied.copy_pointers.Given as goal

abbrev pub invariant-loop-index : goal.invariant-loop-index
invariant-loop-index g l = ArePointersCopied (struct_of g.R.ReaderSegments.segments l.fields) l.index l.fn.objects l.objects l.pointers
