-- The object comes after the used bytes, to which zeros were added where there were too few.
use Rattle.std.proofs.Common.{◌≡◌, ◌∙◌, ◌≤◌, ℕ, List, length, take, replicate, refl, ap, arith, length-append}
use Rattle.std.proofs.lemmas.List.{take-append-le}
use Rattle.capnp_orphans.proofs.ObjectAppendLemmas.{heap_appended}
use Rattle.capnp_orphans.proofs.heap.HeapGrowingSegment.append.Goals.{else-end-len-via-then-end-len+else-not-grown, else-end-len-via-else-end-len}
use Rattle.capnp_orphans.proofs.heap.HeapGrowingSegment.append.Goals as goal

pub returns : goal.returns
returns g c =
    let grows : (take c.self.inside.used c.else-end-len.self-inside.bytes.items ≡ take c.self.inside.used c.self.inside.bytes.items) × (c.self.inside.used ≤ length c.else-end-len.self-inside.bytes.items)
    × (length c.else-end-len.self-inside.bytes.items ≤ c.else-end-len.self-inside.bytes.cap) × (c.self.inside.bytes.cap ≤ c.else-end-len.self-inside.bytes.cap) =
    elim c.else-end-len.branch [
      | else-end-len-via-then-end-len+else-not-grown w ↦ rw w.self-inside-is (
        ap (λ (l : List ℕ). take c.self.inside.used l) w.grown.ensures.items.1
            ∙ take-append-le c.self.inside.used c.self.inside.bytes.items (replicate w.grown.ensures.items.0 0) c.self.invariant.0,
        omega (arith, ap (λ (l : List ℕ). length l) w.grown.ensures.items.1, length-append c.self.inside.bytes.items (replicate w.grown.ensures.items.0 0), c.self.invariant.0),
        w.grown.ensures.room w.if-not-grown.false,
        w.grown.ensures.capacity,
      )
      | else-end-len-via-else-end-len w ↦ rw w.self-inside-is (refl, c.self.invariant.0, c.self.invariant.1, omega arith)
    ] in
    heap_appended (g.O.Object.holds c.args.object.now) c.args.words c.self.inside.used c.else-end-len.self-inside.bytes.len c.self.inside.bytes.cap c.else-end-len.self-inside.bytes.cap c.args.self.now
    c.self.inside.bytes.items c.else-end-len.self-inside.bytes.items c.as_mut_slice.result.now c.write_over-word.new.bytes c.write_over-word.result c.requires.segment c.self.view_is grows.0 grows.1 grows.2
    grows.3 c.as_mut_slice.ensures.value (omega (arith, c.as_mut_slice.ensures.len)) c.write_over-word.ensures
