-- The requests of the table are packed chunks.
use Rattle.std.proofs.Common.{rules, ◌≡◌}
use Rattle.capnp_pack.proofs.encodings.PackedReaderLemmas.{packed_table}
use Rattle.capnp_pack.proofs.stream.skipping.read_packed_table.Goals as goal

pub returns : goal.returns
returns g c =
    let reported = c.read_table.ensures in
    let following : c.source-1.given.0 ≡ c.read_table.new.source.source.now = search rules in
    let table = packed_table (λ p. p.source.now) g.R.Read _ _ _ c.args.rules.padding _ _ c.read_table.result reported.asks.asked.advances.same_source.1 reported in
    rw following (rw c.new-packed.ensures.source at table)
