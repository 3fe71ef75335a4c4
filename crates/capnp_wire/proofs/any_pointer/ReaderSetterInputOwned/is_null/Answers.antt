-- A pointer is null where its tree is.
use Rattle.capnp_wire.specs.Prelude.{pointer_of}
use Rattle.capnp_wire.proofs.views.ValueAsPartTwoMeasuresLemmas.{null_reported}
use Rattle.capnp_wire.proofs.any_pointer.ReaderSetterInputOwned.is_null.Goals as goal

pub returns : goal.returns
returns g c trees is = null_reported (pointer_of g.S.ReaderSegments.segments c.args.self.now) trees c.is_null.result c.is_null.ensures is
