-- Each read returns a part of what the ones before it left of the request.
use Rattle.std.proofs.Common.{rules}
use Rattle.std.proofs.lemmas.Result.{err_from_is_err_and}
use Rattle.capnp_frame.proofs.sources.JoinedRequestPartsLemmas.{Advances-join, error_fill, ReturnsPart-fill, ReturnsPart-filled}
use Rattle.capnp_frame.proofs.io.Read.read_exact.Goals as goal

pub returns-in_err-count-clause-advances : goal.returns-in_err-count-clause-advances
returns-in_err-count-clause-advances g c = Advances-join _ _ _ (g.met.Self.Read.keeps.transitive _ _ _) c.loop-filled.invariant.3 c.read.ensures.advances

pub returns-then-count-eq0-clause-advances : goal.returns-then-count-eq0-clause-advances
returns-then-count-eq0-clause-advances g c = Advances-join _ _ _ (g.met.Self.Read.keeps.transitive _ _ _) c.loop-filled.invariant.3 c.read.ensures.advances

pub loop-filled-preserved : goal.loop-filled-preserved
loop-filled-preserved g c =
    let filled = ReturnsPart-fill g.Self.Read.gives g.Self.Read.refuses c.loop-filled.filled c.in_ok-count.count
    c.loop-filled.buffer c.read.new.buffer _ _ _ c.loop-filled.invariant.1 (search rules)
    c.in_ok-count.ensures.within c.loop-filled.invariant.2 c.in_ok-count.ensures.taken in
    (search rules, search rules, filled.1, Advances-join _ _ _ (g.met.Self.Read.keeps.transitive _ _ _) c.loop-filled.invariant.3 c.read.ensures.advances)

pub returns-clause-given : goal.returns-clause-given
returns-clause-given g c = ReturnsPart-filled g.Self.Read.gives g.Self.Read.refuses c.loop-filled.filled
    c.loop-filled.buffer _ _ g.met.Self.Read.lawful.takes_nothing c.loop-filled-test.false c.loop-filled.invariant.2

pub returns-in_err-count-clause-errors : goal.returns-in_err-count-clause-errors
returns-in_err-count-clause-errors g c =
    let p = err_from_is_err_and c.from_residual.result c.from_residual.ensures.1 in
    rw (p.1, p.2) (error_fill _ g.Self.Read.gives g.Self.Read.refuses c.loop-filled.filled c.loop-filled.buffer
    c.read.new.buffer _ _ _ c.loop-filled.invariant.1 (search rules) c.loop-filled.invariant.2
    c.in_err-count.ensures.errors)
