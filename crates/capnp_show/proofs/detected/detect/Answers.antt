-- What is read next is read after what was read before, and a failure leaves what was looked at.
use Rattle.std.proofs.Common.{rules, ◌≡◌}
use Rattle.capnp_show.proofs.ReadsExtendInputFrontLemmas.{takes_more}
use Rattle.capnp_show.proofs.detected.detect.Goals as goal

pub returns-in-Is-clause-taken : goal.returns-in-Is-clause-taken
returns-in-Is-clause-taken g c = c.loop.invariant

pub returns-in-End-clause-taken : goal.returns-in-End-clause-taken
returns-in-End-clause-taken g c = takes_more _ _ _ _ _ _ c.loop.invariant c.in_ok-take_part.ensures.taken

pub returns-in-Failure-clause-taken : goal.returns-in-Failure-clause-taken
returns-in-Failure-clause-taken g c = takes_more _ _ _ _ _ _ c.loop.invariant c.in_ok-take_part.ensures.taken

pub returns-in-Failure-clause-told : goal.returns-in-Failure-clause-told
returns-in-Failure-clause-told g c =
    let same : c.take_part.new.front.items ≡ c.loop.front.items = c.in_ok-take_part.ensures.failure c.in-Failure.error c.in-Failure.is in
    rw same (search rules)

pub loop-preserved : goal.loop-preserved
loop-preserved g c = takes_more _ _ _ _ _ _ c.loop.invariant c.in_ok-take_part.ensures.taken
