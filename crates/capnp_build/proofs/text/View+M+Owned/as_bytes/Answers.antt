-- Where there is a list of bytes, there is a segment.
use Rattle.capnp_build.proofs.roots.NoSegmentRootLemmas.{bytes_have_segment}
use Rattle.capnp_build.proofs.text.«View+M+Owned».as_bytes.Goals as goal

pub returns-in-Bytes-clause-none : goal.returns-in-Bytes-clause-none
returns-in-Bytes-clause-none g c = λ empty. absurd (bytes_have_segment c.in-Bytes.n _ c.in-Bytes.ensures.is_kind empty)
