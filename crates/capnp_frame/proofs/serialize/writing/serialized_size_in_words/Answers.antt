-- Each turn adds the words of the segment at the index.
use Rattle.std.proofs.Common.{◌≡◌, ◌+◌, ◌/◌, length, ap, ◌∙◌, arith}
use Rattle.capnp_frame.specs.Prelude.{size_in_words}
use Rattle.std.proofs.lemmas.List.{take_all}
use Rattle.capnp_frame.proofs.sinks.JoinedChunkListLemmas.{size-next, size_take_le, le_of_not_lt}
use Rattle.capnp_frame.proofs.serialize.writing.serialized_size_in_words.Goals as goal

pub returns-in_default-checked_add : goal.returns-in_default-checked_add
returns-in_default-checked_add g c =
    let segments = g.S.ReaderSegments.segments c.args.segments.now in
    let here = c.in-Some.ensures.here in
    let more = size-next segments c.loop-segment.index c.in-Some.segment.now here in
    let most = size_take_le segments (c.loop-segment.index + 1) in
    let past = rw c.in_default-checked_add.is at c.checked_add.ensures in
    record {
      size = tt;
      overflow = (λ _. le_of_not_lt _ _ (λ fits. past (omega arith)), λ _. c.from_kind.ensures);
      kinds = c.from_kind.ensures;
    }

pub loop-segment-preserved : goal.loop-segment-preserved
loop-segment-preserved g c =
    let segments = g.S.ReaderSegments.segments c.args.segments.now in
    let here = c.in-Some.ensures.here in
    let within = c.in-Some.ensures.within in
    let sum_is = rw c.in-Some-checked_add.is at c.checked_add.ensures in
    record {
      within = omega arith;
      fits = omega arith;
      words = rw (size-next segments c.loop-segment.index c.in-Some.segment.now here) (omega arith);
    }

pub returns : goal.returns
returns g c =
    let segments = g.S.ReaderSegments.segments c.args.segments.now in
    let past = rw c.in_default.is at c.segment_at.ensures.end in
    let all = take_all c.loop-segment.index segments past in
    let total : c.loop-segment.words ≡ length segments / 2 + 1 + size_in_words segments = c.loop-segment.invariant.words ∙ ap (λ l. length segments / 2 + 1 + size_in_words l) all in
    record { size = total; overflow = (λ never. absurd never, λ over. omega arith); kinds = tt }
