-- The segments are tested one by one.
use Rattle.std.proofs.Common.{◌≡◌, ◌+◌, ◌-◌, ◌^◌, Some, None, ◌∙◌, ap, sym, subst, refl, take, suc, arith}
use Rattle.std.specs.List.{AllByRecursion}
use Rattle.std.specs.Prelude.{option_copied, slice_get}
use Rattle.std.proofs.lemmas.Bool.{false≢true}
use Rattle.std.proofs.lemmas.Option.{slice_get_within}
use Rattle.capnp_frame.proofs.sinks.WritableSegmentBySegmentLemmas.{IsWholeSegment, AllByRecursion-take-next, IsWholeSegment-at, IsWritable-ended, some_segments, writable_at_end}
use Rattle.capnp_frame.proofs.serialize.writable.is_writable.Goals as goal
use Rattle.capnp_frame.proofs.serialize.writable.is_writable.Goals.{then-segment-ne0-via-then-segment-ne0, then-segment-ne0-via-else-segment-ne0+then-segment}

pub returns-in_default : goal.returns-in_default
returns-in_default g c =
    let segments = g.S.ReaderSegments.segments c.args.segments.now in
    let none : slice_get segments c.loop-id.id ≡ None = sym c.get_segment.ensures ∙ ap option_copied c.in_default.is in
    let some = some_segments segments c.is_empty.result c.if-is_empty.false c.is_empty.ensures in
    (λ yes. IsWritable-ended segments c.loop-id.id none (omega arith) some c.loop-id.invariant.whole, λ writable. refl)

pub returns-then-segment-ne0 : goal.returns-then-segment-ne0
returns-then-segment-ne0 g c =
    let segments = g.S.ReaderSegments.segments c.args.segments.now in
    let segment = c.in-Some.segment.now in
    let here : slice_get segments c.loop-id.id ≡ Some segment = sym c.get_segment.ensures ∙ ap option_copied c.in-Some.is in (
      λ yes. absurd (false≢true yes),
      λ writable.
          let whole = IsWholeSegment-at segments c.loop-id.id segment writable here in
          elim c.then-segment-ne0.branch [
            | then-segment-ne0-via-then-segment-ne0 w ↦ absurd (omega (arith, whole.0))
            | then-segment-ne0-via-else-segment-ne0+then-segment w ↦ absurd (omega (arith, whole.1))
          ],
    )

pub loop-id-preserved : goal.loop-id-preserved
loop-id-preserved g c =
    let segments = g.S.ReaderSegments.segments c.args.segments.now in
    let id = c.loop-id.id in
    let segment = c.in-Some.segment.now in
    let here : slice_get segments id ≡ Some segment = sym c.get_segment.ensures ∙ ap option_copied c.in-Some.is in
    let next : suc id ≡ id + 1 = omega arith in
    record {
      within = omega (arith, slice_get_within segments id segment here);
      whole = subst (λ n. AllByRecursion IsWholeSegment (take n segments)) next
          (AllByRecursion-take-next IsWholeSegment segments id segment here (omega arith, omega arith) c.loop-id.invariant.whole);
    }

pub returns : goal.returns
returns g c =
    let segments = g.S.ReaderSegments.segments c.args.segments.now in
    let some = some_segments segments c.is_empty.result c.if-is_empty.false c.is_empty.ensures in
    let last : c.loop-id.id ≡ 2 ^ 32 - 1 = omega arith in
    let whole = subst (λ n. AllByRecursion IsWholeSegment (take n segments)) last c.loop-id.invariant.whole in
    writable_at_end c.get_segment-2.result segments c.is_none.result c.is_none.ensures c.get_segment-2.ensures some whole
