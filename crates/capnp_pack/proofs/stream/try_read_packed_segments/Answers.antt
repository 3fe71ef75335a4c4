-- The three requests take the three chunks.
use Rattle.std.proofs.Common.{rules, ◌≡◌}
use Rattle.capnp_pack.proofs.encodings.PackedReaderLemmas.{packed_reads}
use Rattle.capnp_pack.proofs.stream.try_read_packed_segments.Goals as goal

pub returns : goal.returns
returns g c =
    let reported = c.try_read_segments_reusing.ensures in
    let following : c.source-1.given.0 ≡ c.try_read_segments_reusing.new.source.source.now = search rules in
    let reads = packed_reads c.args.rules.padding (λ p. p.source.now) g.R.Read _ _ _ c.args.spare c.args.rules.limit_in_words c.try_read_segments_reusing.result reported.advances.same_source.1 reported in
    rw following (rw c.new-packed.ensures.source at reads)
