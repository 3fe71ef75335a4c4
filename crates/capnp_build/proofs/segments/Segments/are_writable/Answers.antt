-- What the invariant says of each segment.
use Rattle.std.proofs.Common.{subst}
use Rattle.capnp_build.specs.Prelude.{BuilderState, spaces_of, CanBeWritten}
use Rattle.capnp_build.proofs.states.WholeWordSegmentLemmas.{used_is_writable, few_spaces}
use Rattle.capnp_build.proofs.segments.Segments.are_writable.Goals as goal

pub returns : goal.returns
returns g c =
    subst (λ (h : BuilderState g.row.A.Denot). CanBeWritten h.spaces) c.self.view_is
    (used_is_writable (spaces_of c.self.inside.first c.self.inside.others.items) c.self.invariant.3 (few_spaces c.self.inside.first c.self.inside.others.items c.self.invariant.2))
