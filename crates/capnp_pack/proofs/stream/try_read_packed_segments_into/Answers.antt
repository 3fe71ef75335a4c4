-- The three requests take the three chunks.
use Rattle.std.proofs.Common.{rules, ◌≡◌, length}
use Rattle.capnp_pack.proofs.encodings.PackedReaderLemmas.{packed_reads_into}
use Rattle.capnp_pack.proofs.stream.try_read_packed_segments_into.Goals as goal

pub returns : goal.returns
returns g c =
    let reported = c.try_read_segments_into_with_rules.ensures in
    let following : c.source-1.given.0 ≡ c.try_read_segments_into_with_rules.new.source.source.now = search rules in
    let reads = packed_reads_into c.args.rules.padding (λ p. p.source.now) g.R.Read _ _ _ c.args.rules.limit_in_words (length c.args.buffer.now) _ reported.advances.same_source.1 reported in
    rw following (rw c.new-packed.ensures.source at reads)
