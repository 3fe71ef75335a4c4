-- What is returned is whether a message was read.
use Rattle.std.proofs.lemmas.Result.{err_from_is_err_and}
use Rattle.capnp_uses.proofs.SkippingAgreesWithReadingLemmas.{skips, skip_fails}
use Rattle.capnp_uses.proofs.streaming.skip_message.Goals as goal

pub returns-in_err-message : goal.returns-in_err-message
returns-in_err-message g c =
    let p = err_from_is_err_and c.from_residual.result c.from_residual.ensures.1 in
    rw (p.1, p.2) (skip_fails g.R.Read _ _ c.args.format c.args.options.traversal_limit_in_words _ (c.in_err-message.ensures.encodings tt) c.in_err-message.ensures.reads)

pub returns : goal.returns
returns g c = skips g.R.Read _ _ c.args.format c.args.options.traversal_limit_in_words (λ reader. reader.segments) c.in_ok-message.message _
    c.is_some.ensures (c.in_ok-message.ensures.encodings tt) c.in_ok-message.ensures.reads
