-- The three requests take the three chunks.
use Rattle.std.proofs.Common.{rules, ◌≡◌, length}
use Rattle.capnp_pack.proofs.encodings.PackedReaderLemmas.{packed_reads_into}
use Rattle.capnp_pack.proofs.stream.try_read_packed_framed_into.Goals as goal

pub returns : goal.returns
returns g c =
    let reported = c.try_read_framed_into.ensures in
    let after : c.source-1.given.0 ≡ c.try_read_framed_into.new.source.source.now = search rules in
    let reads = packed_reads_into c.args.rules.padding (λ p. p.source.now) g.R.Read _ _ _ c.args.rules.limit_in_words (length c.args.buffer.now) _ reported.reads.advances.same_source.1 reported.reads in
    record { reads = rw after (rw c.new-packed.ensures.source at reads); encoding = reported.encoding; room = reported.room }
