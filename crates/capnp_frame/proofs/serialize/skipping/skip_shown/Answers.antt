-- Each turn drops some more, and nothing is left to drop only at the end.
use Rattle.std.proofs.Common.{rules, ◌-◌, inr, arith}
use Rattle.capnp_frame.proofs.sources.JoinedCallsAdvanceSourceLemmas.{Asked-err}
use Rattle.capnp_frame.proofs.sources.JoinedRequestPartsLemmas.{Advances-join}
use Rattle.capnp_frame.proofs.sources.SkippingReaderOutcomeLemmas.{Drops-as, Drops-join, short_at_end}
use Rattle.capnp_frame.proofs.serialize.skipping.skip_shown.Goals as goal

pub returns-in_err-taken : goal.returns-in_err-taken
returns-in_err-taken g c = record {
  dropped = search rules;
  errors = search rules;
  asked = Asked-err (g.met.R.Read.keeps.transitive _ _ _) c.from_residual.ensures.1 c.loop-left.invariant.advances c.in_err-taken.ensures.asked;
}

pub returns-then-taken-eq0 : goal.returns-then-taken-eq0
returns-then-taken-eq0 g c = record {
  dropped = search rules;
  errors = inr (short_at_end g.R.Read.refuses (c.args.count - c.loop-left.left) c.args.count _ _ _ g.met.R.BufRead.plain_errors
      (omega arith) c.loop-left.invariant.dropped (c.in_ok-taken.ensures.end c.if-taken-eq0.true) c.from_kind.ensures);
  asked = search rules;
}

pub loop-left-preserved : goal.loop-left-preserved
loop-left-preserved g c = record {
  within = omega arith;
  dropped = Drops-join (c.args.count - c.loop-left.left) c.in_ok-taken.taken (c.args.count - (c.loop-left.left - c.in_ok-taken.taken)) _ _ _
      (omega (arith, c.in_ok-taken.ensures.within)) c.loop-left.invariant.dropped c.in_ok-taken.ensures.dropped;
  advances = Advances-join _ _ _ (g.met.R.Read.keeps.transitive _ _ _) c.loop-left.invariant.advances c.skip_some.ensures.asked.advances;
}

pub returns : goal.returns
returns g c = record {
  dropped = Drops-as (c.args.count - c.loop-left.left) c.args.count _ _ (omega arith) c.loop-left.invariant.dropped;
  errors = search rules;
  asked = search rules;
}
