-- The word is the result of one or two reads.
use Rattle.std.proofs.Common.{rules, ◌≡◌}
use Rattle.capnp_frame.specs.declared.error.Error.{Error}
use Rattle.capnp_frame.specs.declared.error.ErrorKind.TheVariants.{DeviceFailed}
use Rattle.capnp_frame.proofs.sources.JoinedCallsAdvanceSourceLemmas.{Asked-ok, Asked-err}
use Rattle.capnp_frame.proofs.sources.JoinedRequestPartsLemmas.{not_at_end, IfErr-vacuous}
use Rattle.capnp_frame.proofs.serialize.stream_table.read_first.Goals as goal

pub returns-in_err-read_chunk-clause-end : goal.returns-in_err-read_chunk-clause-end
returns-in_err-read_chunk-clause-end g c =
    let here = not_at_end (g.R.Read.unread c.args.source.now) c.in_ok-count.count _ c.in_ok-count.ensures.end (search rules) c.if-count-eq0.false in
    IfErr-vacuous (λ (error : Error). error.kind ≡ DeviceFailed) _ here

pub returns-in_err-read_chunk-clause-asked : goal.returns-in_err-read_chunk-clause-asked
returns-in_err-read_chunk-clause-asked g c = Asked-err (g.met.R.Read.keeps.transitive _ _ _) c.from_residual-in_err-read_chunk.ensures.1 c.read.ensures.advances c.in_err-read_chunk.ensures.asked

pub returns-clause-asked : goal.returns-clause-asked
returns-clause-asked g c = Asked-ok (g.met.R.Read.keeps.transitive _ _ _) c.read.ensures.advances c.read_chunk.ensures.asked.advances
