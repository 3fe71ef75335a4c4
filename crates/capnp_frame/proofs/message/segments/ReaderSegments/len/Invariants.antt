-- Each index below the count is one of a segment.
use Rattle.std.proofs.Common.{length, ◌-◌, ◌≤◌}
use Rattle.capnp_frame.proofs.message.segments.ReaderSegments.len.Given as goal

abbrev pub invariant-loop-count : goal.invariant-loop-count
invariant-loop-count g l = l.count ≤ length (g.Self.ReaderSegments.segments l.fn.self)

abbrev pub decreases-loop-count : goal.decreases-loop-count
decreases-loop-count g l = length (g.Self.ReaderSegments.segments l.fn.self) - l.count
