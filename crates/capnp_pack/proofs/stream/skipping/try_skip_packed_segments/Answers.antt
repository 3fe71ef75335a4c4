-- Some packed message of these lengths is there.
use Rattle.std.proofs.Common.{rules, ◌*◌, Ok, Some, length}
use Rattle.capnp_frame.proofs.sources.SkippingReaderOutcomeLemmas.{skips_unread, skips_cut, skips_found}
use Rattle.capnp_pack.specs.Prelude.{packed_source, unpacking}
use Rattle.capnp_pack.proofs.encodings.PackedReaderLemmas.{lengths_skipped, packed_skips}
use Rattle.capnp_pack.proofs.stream.skipping.try_skip_packed_segments.Goals as goal

pub returns-in_err-found : goal.returns-in_err-found
returns-in_err-found g c =
    let table = c.in_err-found.ensures in
    packed_skips c.args.rules.padding g.R.Read _ _ _ _ _ table.asks.asked.advances.same_source
    (skips_unread c.args.rules.padding (packed_source g.R.Read) unpacking _ _ _ _ _ _ c.from_residual.ensures.1 table)

pub returns-in_err-skip_chunk : goal.returns-in_err-skip_chunk
returns-in_err-skip_chunk g c =
    let table = rw c.in-Some.is at c.in_ok-found.ensures in
    let skipped = c.in_err-skip_chunk.ensures in
    let join = g.met.R.Read.keeps.transitive _ _ _ in
    packed_skips c.args.rules.padding g.R.Read _ _ _ _ _ (join table.asks.asked.advances.same_source skipped.asked.advances.same_source)
    (skips_cut c.args.rules.padding (packed_source g.R.Read) unpacking _ _ _ _ _ c.in-Some.found (8 * c.total_words.result) _ _ join
    c.from_residual-in_err-skip_chunk.ensures.1 table (search rules) skipped.errors skipped.asked)

pub returns : goal.returns
returns g c =
    let table = rw c.in-Some.is at c.in_ok-found.ensures in
    let second = c.skip_chunk.ensures.asked.advances in
    let old = c.args.source.now in
    let mid = c.read_packed_table.new.source in
    let new = c.skip_chunk.new.source in
    let R = g.R.Read in
    let join = g.met.R.Read.keeps.transitive old mid new in
    packed_skips c.args.rules.padding R old new (length c.args.lengths) c.args.rules.limit_in_words (Ok (Some c.in-Some.found)) (join table.asks.asked.advances.same_source second.same_source)
    (skips_found c.args.rules.padding (packed_source R) unpacking old mid new _ _ c.in-Some.found join table
    (lengths_skipped c.args.rules.padding c.in-Some.found (8 * c.total_words.result) (R.unread old) (R.unread mid) (R.unread new) (search rules)
    table.found c.in_ok-skip_chunk.ensures.skipped) second)
