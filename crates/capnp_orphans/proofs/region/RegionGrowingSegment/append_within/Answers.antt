-- The object comes after the used bytes.
use Rattle.std.proofs.Common.{length, ap, arith, length-take}
use Rattle.capnp_orphans.specs.Segments.{Segment}
use Rattle.capnp_orphans.proofs.ObjectAppendLemmas.{region_appended}
use Rattle.capnp_orphans.proofs.region.RegionGrowingSegment.append_within.Goals as goal

pub returns : goal.returns
returns g c = (
  omega (arith, ap (λ (s : Segment). length s.bytes) c.self.view_is, length-take c.self.inside.used c.self.inside.bytes.now, c.self.invariant.0, c.if-end-self.false),
  region_appended (g.O.Object.holds c.args.object.now) c.args.words c.self.inside.used c.args.self.now c.self.inside.bytes.now c.write_over-word.new.bytes c.write_over-word.result c.requires.segment
      c.self.view_is (omega (arith, c.if-end-self.false, c.self.invariant.1)) c.write_over-word.ensures,
)
