-- Some message of these lengths is there.
use Rattle.std.proofs.Common.{rules, ◌*◌}
use Rattle.capnp_frame.proofs.sources.SkippingReaderOutcomeLemmas.{LengthsFound-skipped, skips_unread, skips_cut, skips_found}
use Rattle.capnp_frame.proofs.serialize.skipping.try_skip_segments.Goals as goal

pub returns-in_err-found : goal.returns-in_err-found
returns-in_err-found g c = skips_unread c.args.rules.padding g.R.Read g.met.R.Read.lawful _ _ _ _ _ _ c.from_residual.ensures.1 c.in_err-found.ensures

pub returns-in_err-skip_bytes : goal.returns-in_err-skip_bytes
returns-in_err-skip_bytes g c =
    let table = rw c.in-Some.is at c.in_ok-found.ensures in
    let skipped = c.in_err-skip_bytes.ensures in
    skips_cut c.args.rules.padding g.R.Read g.met.R.Read.lawful _ _ _ _ _ c.in-Some.found (8 * c.total_words.result) _ _
    (g.met.R.Read.keeps.transitive _ _ _) c.from_residual-in_err-skip_bytes.ensures.1 table (search rules) skipped.errors skipped.asked

pub returns : goal.returns
returns g c =
    let table = rw c.in-Some.is at c.in_ok-found.ensures in
    skips_found c.args.rules.padding g.R.Read g.met.R.Read.lawful _ _ _ _ _ c.in-Some.found (g.met.R.Read.keeps.transitive _ _ _) table
    (LengthsFound-skipped c.args.rules.padding g.R.Read.gives c.in-Some.found (8 * c.total_words.result) _ _ _ g.met.R.BufRead.plain (search rules)
    table.found c.in_ok-skip_bytes.ensures.dropped) c.skip_bytes.ensures.asked.advances
