-- The object comes after the used bytes.
use Rattle.std.proofs.Common.{length, refl, ap, arith, length-take}
use Rattle.capnp_orphans.specs.Segments.{Segment}
use Rattle.capnp_orphans.proofs.ObjectAppendLemmas.{heap_appended}
use Rattle.capnp_orphans.proofs.heap.HeapGrowingSegment.append_within.Goals as goal

pub returns : goal.returns
returns g c = (
  omega (arith, ap (λ (s : Segment). length s.bytes) c.self.view_is, length-take c.self.inside.used c.self.inside.bytes.items, c.self.invariant.0, c.self.invariant.2, c.if-end-len.false, c.len.ensures),
  heap_appended (g.O.Object.holds c.args.object.now) c.args.words c.self.inside.used c.self.inside.bytes.len c.self.inside.bytes.cap c.self.inside.bytes.cap c.args.self.now c.self.inside.bytes.items
      c.self.inside.bytes.items c.as_mut_slice.result.now c.write_over-word.new.bytes c.write_over-word.result c.requires.segment c.self.view_is refl c.self.invariant.0 c.self.invariant.1 (omega arith)
      c.as_mut_slice.ensures.value (omega (arith, c.as_mut_slice.ensures.len)) c.write_over-word.ensures,
)
