-- The start so far is the sum of the lengths before.
use Rattle.std.proofs.Common.{◌≡◌}
use Rattle.std.specs.Prelude.{sum}
use Rattle.capnp_frame.specs.Prelude.{declared_lengths}
use Rattle.capnp_frame.proofs.serialize.no_alloc_buffer_segments.later_start.Given as goal

abbrev pub invariant-short : goal.invariant-short
invariant-short l = (l.start ≡ sum (declared_lengths l.before l.bytes))

abbrev pub invariant-long : goal.invariant-long
invariant-long l = (l.start ≡ sum (declared_lengths l.before l.bytes))
