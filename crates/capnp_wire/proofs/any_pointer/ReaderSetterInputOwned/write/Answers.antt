-- A pointer points to one tree.
use Rattle.capnp_wire.specs.Prelude.{pointer_of, PointsToTree}
use Rattle.capnp_wire.proofs.layouts.NullAndNumbersWrittenLemmas.{tree_body_long}
use Rattle.capnp_wire.proofs.views.UniqueValueTreeAndMeasureLemmas.{one_of_pointer}
use Rattle.capnp_wire.proofs.any_pointer.ReaderSetterInputOwned.write.Goals as goal

pub returns-clause-long : goal.returns-clause-long
returns-clause-long g c trees is =
    let p = pointer_of g.S.ReaderSegments.segments c.args.self.now in
    tree_body_long (PointsToTree p) c.args.canonical c.args.next _ (one_of_pointer p).same_tree c.requires.value trees is
