-- Each turn drops a part, and the rest is dropped at last.
use Rattle.std.proofs.Common.{rules, ◌≡◌, ◌-◌, length, arith}
use Rattle.std.proofs.lemmas.Result.{on_ok_weaker}
use Rattle.capnp_frame.specs.Prelude.{Drops, IfKnown}
use Rattle.capnp_frame.proofs.sources.JoinedCallsAdvanceSourceLemmas.{passed_on, Asked-err, Asked-after}
use Rattle.capnp_frame.proofs.sources.JoinedRequestPartsLemmas.{Advances-join}
use Rattle.capnp_frame.proofs.sources.SkippingReaderOutcomeLemmas.{Drops-join, read_dropped, short_after, skip_fails_after}
use Rattle.capnp_frame.proofs.serialize.skipping.skip_parts.Goals as goal

pub returns-in_err-read_exact : goal.returns-in_err-read_exact
returns-in_err-read_exact g c =
    let size : length c.read_exact.new.buffer ≡ length c.args.part.now = search rules in
    record {
      dropped = search rules;
      errors = passed_on _ _ c.from_residual.ensures.1 (short_after g.R.Read.refuses (c.args.count - c.loop-left.left) (length c.read_exact.new.buffer)
          c.args.count _ _ _ g.met.R.BufRead.plain_errors (omega (arith, size)) c.loop-left.invariant.dropped c.in_err-read_exact.ensures.errors);
      asked = Asked-err {X = Unit {0}} (g.met.R.Read.keeps.transitive _ _ _) c.from_residual.ensures.1 c.loop-left.invariant.advances
          (record { failed = c.in_err-read_exact.ensures.failed; advances = c.read_exact.ensures.advances });
    }

pub loop-left-preserved : goal.loop-left-preserved
loop-left-preserved g c =
    let size : length c.read_exact.new.buffer ≡ length c.args.part.now = search rules in
    record {
      within = omega arith;
      dropped = Drops-join (c.args.count - c.loop-left.left) (length c.read_exact.new.buffer) (c.args.count - (c.loop-left.left - length c.args.part.now)) _ _ _
          (omega (arith, size)) c.loop-left.invariant.dropped
          (read_dropped g.R.Read.gives c.read_exact.new.buffer _ _ g.met.R.BufRead.plain c.in_ok-read_exact.ensures.given);
      advances = Advances-join _ _ _ (g.met.R.Read.keeps.transitive _ _ _) c.loop-left.invariant.advances c.read_exact.ensures.advances;
    }

pub returns : goal.returns
returns g c = record {
  dropped = on_ok_weaker c.skip_shown.result
      (λ (rest : IfKnown (g.R.Read.unread c.loop-left.source) (g.R.Read.unread c.skip_shown.new.source) (Drops c.loop-left.left)).
      Drops-join (c.args.count - c.loop-left.left) c.loop-left.left c.args.count _ _ _ (omega arith) c.loop-left.invariant.dropped rest)
      c.skip_shown.ensures.dropped;
  errors = skip_fails_after g.R.Read.refuses (c.args.count - c.loop-left.left) c.loop-left.left c.args.count _ _ c.skip_shown.result
      g.met.R.BufRead.plain_errors (omega arith) c.loop-left.invariant.dropped c.skip_shown.ensures.errors;
  asked = Asked-after c.skip_shown.result (g.met.R.Read.keeps.transitive _ _ _) c.loop-left.invariant.advances c.skip_shown.ensures.asked;
}
