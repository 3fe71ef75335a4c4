-- Each line of the table is returned, and a message that is accepted meets none.
use Rattle.std.proofs.Common.{◌≡◌, ◌∙◌, ap, sym, length}
use Rattle.std.specs.List.{concat}
use Rattle.capnp_frame.specs.Prelude.{Outgrows}
use Rattle.capnp_frame.proofs.tables.PartsCutAtRunningSumsLemmas.{length-cut, concat-cut}
use Rattle.capnp_frame.proofs.sources.AllocatingReaderOutcomeLemmas.{reads_taking}
use Rattle.capnp_frame.proofs.serialize.stream.try_read_segments_reusing.Goals as goal

pub returns : goal.returns
returns g c =
    let reported = c.read_segments.ensures in
    let indices = c.into_parts-indices.result.0 in
    let bytes = c.into_parts-indices.result.1 in
    let segments : length c.args.spare ≡ length indices = ap length c.into_parts-indices.ensures.segments ∙ length-cut indices bytes.items in
    let size : length (concat c.args.spare) ≡ bytes.len = ap (λ kept. length (concat kept)) c.into_parts-indices.ensures.segments
    ∙ ap length (concat-cut indices bytes.items (sym bytes.ok.0 ∙ c.into_parts-indices.ensures.whole)) ∙ sym bytes.ok.0 in
    rw (segments, size) (reads_taking c.args.rules.padding g.R.Read g.met.R.Read.lawful _ _ (Outgrows (length indices) bytes.len c.args.rules.padding g.R.Read.gives)
    _ c.read_segments.result reported.found reported.within reported.whole reported.asks)
