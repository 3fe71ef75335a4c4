-- A word that is no struct or list pointer fails with the error of its kind.
use Rattle.std.proofs.Common.{inl, inr}
use Rattle.capnp_layout.proofs.landing_pad.local_pointer.Goals as goal

pub returns-in-Far-clause-errors : goal.returns-in-Far-clause-errors
returns-in-Far-clause-errors c = inl (c.in-Far.ensures.far_kind, c.from_kind.ensures)

pub returns-in-Other-clause-errors : goal.returns-in-Other-clause-errors
returns-in-Other-clause-errors c = inr (c.in-Other.ensures, c.from_kind-in-Other.ensures)
