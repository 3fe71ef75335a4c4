-- The engine's chunks, packed.
use Rattle.std.proofs.Common.{rules, ◌≡◌}
use Rattle.capnp.proofs.MessageWriteLemmas.{packed_written}
use Rattle.capnp.proofs.serialize_packed.writing.write_message_segments.Goals as goal

pub returns : goal.returns
returns g c =
    let all = c.write_segments.ensures in
    let reported = all.parts in
    let kept = reported.grows in
    let packed = packed_written g.W.Write (λ p. p.sink.now) c.new-packed.result c.write_segments.new.sink
    (g.S.ReaderSegments.segments c.args.segments.now) c.write_segments.result all.count all.unwritten
    reported.written reported.left reported.errors reported.untouched reported.failed (record { front = kept.front; counted = kept.counted; same_sink = kept.same_sink.1 }) in
    let following : c.sink-1.given.0 ≡ c.write_segments.new.sink.sink.now = search rules in
    rw following (rw c.new-packed.ensures.sink at packed)
