-- Either format's message.
use Rattle.std.proofs.Common.{length}
use Rattle.std.specs.List.{concat}
use Rattle.capnp_frame.specs.Prelude.{Outgrows, TakesMemory}
use Rattle.capnp_frame.proofs.sources.AllocatingReaderOutcomeLemmas.{reads_with_less}
use Rattle.capnp_pack.specs.Prelude.{Unpacks, packed_rules}
use Rattle.capnp.specs.Prelude.{IsPlainSource}
use Rattle.capnp.proofs.ReaderOutcomeByFormatRulesLemmas.{plain_reads_reusing, Outgrows-none}
use Rattle.capnp.proofs.streams.read_next.Goals as goal

pub returns-in-Framed : goal.returns-in-Framed
returns-in-Framed g c =
    let plain : IsPlainSource g.R.Read.gives g.R.Read.refuses = record { given = g.met.R.BufRead.plain; errors = g.met.R.BufRead.plain_errors } in
    rw c.in-Framed.is (plain_reads_reusing c.args.rules.padding g.R.Read plain c.args.rules.limit_in_words c.args.spare _ _ _ c.try_read_segments_reusing.ensures)

pub returns-in-Packed : goal.returns-in-Packed
returns-in-Packed g c =
    let kept = c.args.spare in
    rw c.in-Packed.is (reads_with_less g.R.Read _ _ (packed_rules c.args.rules.padding) (Outgrows (length kept) (length (concat kept)) c.args.rules.padding Unpacks)
    (TakesMemory c.args.rules.padding Unpacks) c.args.rules.limit_in_words _ (Outgrows-none _ _ c.args.rules.padding Unpacks c.args.rules.limit_in_words)
    c.try_read_packed_segments.ensures)
