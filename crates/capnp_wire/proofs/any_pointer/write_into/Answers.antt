-- A tree is written as a copy is; null has no words.
use Rattle.capnp_wire.specs.Prelude.{pointer_of}
use Rattle.capnp_wire.proofs.layouts.NullAndNumbersWrittenLemmas.{null_copied}
use Rattle.capnp_wire.proofs.views.ValueAsPartTwoMeasuresLemmas.{null_there_tree}
use Rattle.capnp_wire.proofs.any_pointer.write_into.Goals as goal

pub returns-in-None-clause-written : goal.returns-in-None-clause-written
returns-in-None-clause-written g c trees is =
    null_copied c.args.canonical trees _ c.args.next _ (null_there_tree (pointer_of g.S.ReaderSegments.segments c.args.reader.now) trees c.in-None.is is)
