-- There is no first segment exactly where there is none.
use Rattle.capnp_frame.proofs.tables.PartsCutAtRunningSumsLemmas.{first_shows}
use Rattle.capnp_frame.proofs.message.segments.ReaderSegments.is_empty.Goals as goal

pub returns : goal.returns
returns g c = first_shows c.get_segment.result _ c.is_none.result c.is_none.ensures c.get_segment.ensures
