-- The view accepts whatever a pointer points to, and null.
use Rattle.capnp_wire.specs.Prelude.{pointer_of}
use Rattle.capnp_wire.proofs.views.AnyObjectAcceptedLemmas.{is_object_view}
use Rattle.capnp_wire.proofs.any_object.reader.ReaderFromPointerReader.get_from_pointer.Goals as goal

pub returns : goal.returns
returns g c = is_object_view g.S.ReaderSegments.segments (pointer_of g.S.ReaderSegments.segments c.args.reader) c.read.result c.read.ensures
