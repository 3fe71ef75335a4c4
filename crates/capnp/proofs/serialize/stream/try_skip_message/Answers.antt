-- What a reader returns over a source of plain bytes.
use Rattle.std.proofs.Common.{length}
use Rattle.capnp.specs.Prelude.{IsPlainSource}
use Rattle.capnp.proofs.ReaderOutcomeByFormatRulesLemmas.{plain_skips}
use Rattle.capnp.proofs.serialize.stream.try_skip_message.Goals as goal

pub returns : goal.returns
returns g c =
    let plain : IsPlainSource g.R.Read.gives g.R.Read.refuses = record { given = g.met.R.BufRead.plain; errors = g.met.R.BufRead.plain_errors } in
    plain_skips c.args.padding g.R.Read plain c.args.options.traversal_limit_in_words (length c.args.lengths) c.args.source.now c.try_skip_segments.new.source c.try_skip_segments.result (rw c.new.ensures at c.try_skip_segments.ensures)
