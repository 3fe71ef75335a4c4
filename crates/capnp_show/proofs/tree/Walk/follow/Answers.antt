-- No pointer fails with `ReadLimitExceeded`, since the view has no limit of words.
use Rattle.std.proofs.Common.{refl, arith}
use Rattle.capnp_wire.proofs.views.RejectedExcludesAcceptedLemmas.{pointer_error_unlimited}
use Rattle.capnp_show.proofs.tree.Walk.follow.Goals as goal

pub returns-in-Err-clause-runs : goal.returns-in-Err-clause-runs
returns-in-Err-clause-runs g c =
    (λ limit. absurd (pointer_error_unlimited _ _ 1 _ (c.in-Err.ensures.errors 1 (omega arith)) limit), λ other. refl)
