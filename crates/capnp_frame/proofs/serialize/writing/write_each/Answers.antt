-- Each turn writes the segment at the index.
use Rattle.std.proofs.Common.{rules, arith}
use Rattle.std.proofs.lemmas.List.{take_all}
use Rattle.std.proofs.lemmas.Result.{err_from_is_err_and}
use Rattle.capnp_frame.proofs.sources.JoinedRequestPartsLemmas.{Grows-join}
use Rattle.capnp_frame.proofs.sinks.JoinedChunkListLemmas.{next_chunk_written}
use Rattle.capnp_frame.proofs.sinks.ChunkWritesUntilFailureLemmas.{failed_at}
use Rattle.capnp_frame.proofs.sinks.GrantedChunkLemmas.{stays_granted, granted_next, never_at}
use Rattle.capnp_frame.proofs.serialize.writing.write_each.Goals as goal

pub returns-in_err-write_all-clause-writes : goal.returns-in_err-write_all-clause-writes
returns-in_err-write_all-clause-writes g c =
    let p = err_from_is_err_and c.from_residual.result c.from_residual.ensures.1 in
    let segments = g.S.ReaderSegments.segments c.args.segments.now in
    let reported = c.in_err-write_all.ensures in
    let here = c.in-Some.ensures.here in
    rw (p.1, p.2) (failed_at g.W.Write g.met.W.Write.keeps _ _ _ segments c.loop-segment.index c.in-Some.segment.now _ here
    c.loop-segment.invariant.written c.loop-segment.invariant.grows reported.left reported.errors reported.failed reported.grows)

pub returns-in_err-write_all-clause-granted : goal.returns-in_err-write_all-clause-granted
returns-in_err-write_all-clause-granted g c =
    let p = err_from_is_err_and c.from_residual.result c.from_residual.ensures.1 in
    let segments = g.S.ReaderSegments.segments c.args.segments.now in
    rw p.1 (λ more given. absurd (never_at g.W.Write.grants _ _ _ segments c.loop-segment.index c.in-Some.segment.now c.in-Some.ensures.here
    c.loop-segment.invariant.granted c.in_err-write_all.ensures.granted more given))

pub loop-segment-init : goal.loop-segment-init
loop-segment-init g c = record { within = search rules; written = search rules; grows = search rules; granted = stays_granted g.W.Write.grants _ }

pub loop-segment-preserved : goal.loop-segment-preserved
loop-segment-preserved g c =
    let segments = g.S.ReaderSegments.segments c.args.segments.now in
    let here = c.in-Some.ensures.here in
    let within = c.in-Some.ensures.within in
    record {
      within = omega arith;
      written = next_chunk_written g.W.Write.appends segments c.loop-segment.index c.in-Some.segment.now _ _ _ here c.loop-segment.invariant.written c.in_ok-write_all.ensures.added;
      grows = Grows-join _ _ _ (g.met.W.Write.keeps.transitive _ _ _) c.loop-segment.invariant.grows c.write_all.ensures.grows;
      granted = granted_next g.W.Write.grants _ _ _ segments c.loop-segment.index c.in-Some.segment.now here c.loop-segment.invariant.granted
          (λ more given. (c.in_ok-write_all.ensures.granted more given).1);
    }

pub returns-clause-writes : goal.returns-clause-writes
returns-clause-writes g c =
    let segments = g.S.ReaderSegments.segments c.args.segments.now in
    let past = rw c.in_default.is at c.segment_at.ensures.end in
    let all = take_all c.loop-segment.index segments past in
    record { written = rw all at c.loop-segment.invariant.written; left = tt; errors = tt; failed = tt; grows = c.loop-segment.invariant.grows }

pub returns-clause-granted : goal.returns-clause-granted
returns-clause-granted g c =
    let segments = g.S.ReaderSegments.segments c.args.segments.now in
    let past = rw c.in_default.is at c.segment_at.ensures.end in
    let all = take_all c.loop-segment.index segments past in
    rw all at c.loop-segment.invariant.granted
