-- Each turn fills in where the next segment begins and ends.
use Rattle.std.proofs.Common.{◌≡◌, ◌+◌, ◌++◌, [], ◌∷◌, map, take, arith, refl, sym, ap, ◌∙◌}
use Rattle.std.proofs.Math.ListN.{set}
use Rattle.std.proofs.lemmas.List.{take_more_set, map-append}
use Rattle.capnp_frame.specs.Prelude.{range_len}
use Rattle.capnp_frame.proofs.tables.PartsCutAtRunningSumsLemmas.{AreRanges-pushed}
use Rattle.capnp_frame.proofs.tables.TableDeclaredByFieldsLemmas.{tells_more}
use Rattle.capnp_frame.proofs.serialize.segment_table.fill_segment_ranges.Goals as goal

pub loop-index-init : goal.loop-index-init
loop-index-init c = record {
  declared = refl;
  ranges = record { running = refl; total_is = refl };
  bound = omega arith;
  lengths = record { each = tt; spelled = refl };
}

pub loop-index-preserved : goal.loop-index-preserved
loop-index-preserved c =
    let before = c.loop-index.invariant in
    let start = c.loop-index.end in
    let n = c.field_at.result in
    let filled = take c.loop-index.index c.loop-index.indices in
    let more = tells_more c.args.table.now c.loop-index.index n c.field_at.type_inv c.field_at.ensures before.lengths in
    let pushed : take (c.loop-index.index + 1) (set c.loop-index.indices c.loop-index.index (start, start + n)) ≡ filled ++ (start, start + n) ∷ [] =
    take_more_set c.loop-index.indices c.loop-index.index (start, start + n) (omega arith) in
    let width : range_len (start, start + n) ≡ n = omega arith in
    record {
      declared = ap (map range_len) pushed ∙ map-append range_len filled ((start, start + n) ∷ []) ∙ ap (λ k. map range_len filled ++ k ∷ []) width ∙ ap (λ l. l ++ n ∷ []) before.declared ∙ sym more.next;
      ranges = AreRanges-pushed filled _ start n (start + n) before.ranges refl pushed;
      bound = omega arith;
      lengths = more.lengths;
    }
