-- Each turn packs the segment at the index.
use Rattle.std.proofs.Common.{arith, Ok, Err, ◌+◌}
use Rattle.std.proofs.lemmas.List.{take_all}
use Rattle.std.proofs.lemmas.Result.{err_from_is_err_and}
use Rattle.capnp_c.proofs.PackChunkCallSequenceLemmas.{packs_one, packs_next, packs_failed_at}
use Rattle.capnp_c.proofs.packed_messages.pack_each.Goals as goal

pub returns-in_err-pack_into : goal.returns-in_err-pack_into
returns-in_err-pack_into g c =
    let p = err_from_is_err_and c.from_residual.result c.from_residual.ensures.1 in
    let W = g.W.Write in
    let segments = g.S.ReaderSegments.segments c.args.segments.now in
    let index = c.loop-segment.index in
    let error = c.in_err-pack_into.field-0.0 in
    let reported = c.in_err-pack_into.ensures in
    let one = packs_one {X = Unit {0}} W _ _ c.in-Some.segment.now (Err error) tt reported.errors reported.failed reported.granted reported.grows in
    rw (p.1, p.2) (packs_failed_at {X = Unit {0}} W _ _ segments (index + 1) error
    (packs_next W g.met.W.Write.keeps _ _ _ segments index c.in-Some.segment.now tt (Err error) c.in-Some.ensures.here c.loop-segment.invariant.packs one))

pub loop-segment-preserved : goal.loop-segment-preserved
loop-segment-preserved g c =
    let W = g.W.Write in
    let segments = g.S.ReaderSegments.segments c.args.segments.now in
    let reported = c.in_ok-pack_into.ensures in
    let within = c.in-Some.ensures.within in
    let one = packs_one {X = Unit {0}} W _ _ c.in-Some.segment.now (Ok tt) reported.packed tt tt reported.granted reported.grows in
    record {
      within = omega arith;
      packs = packs_next W g.met.W.Write.keeps _ _ _ segments c.loop-segment.index c.in-Some.segment.now tt (Ok tt) c.in-Some.ensures.here c.loop-segment.invariant.packs one;
    }

pub returns : goal.returns
returns g c =
    let segments = g.S.ReaderSegments.segments c.args.segments.now in
    let past = rw c.in_default.is at c.segment_at.ensures.end in
    rw (take_all c.loop-segment.index segments past) at c.loop-segment.invariant.packs
