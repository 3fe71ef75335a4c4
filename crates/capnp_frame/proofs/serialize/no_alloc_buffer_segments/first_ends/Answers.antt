-- Each turn keeps the next end.
use Rattle.std.proofs.Common.{◌≡◌, ℕ, ◌+◌, ◌<◌, List, length, rules, ◌∙◌, sym, ap, arith, slice_index}
use Rattle.std.proofs.Math.ListN.{set}
use Rattle.std.proofs.lemmas.List.{get_or-set_same, get_or-set_other}
use Rattle.std.specs.Prelude.{sum}
use borrow.Author.Count.{below_more}
use Rattle.capnp_frame.specs.Prelude.{declared_lengths}
use Rattle.capnp_frame.proofs.tables.SegmentRangeLemmas.{reads_on}
use Rattle.capnp_frame.proofs.serialize.no_alloc_buffer_segments.first_ends.Goals as goal

kept_more : (ends bytes : List ℕ) (index end : ℕ) → index < length ends
    → ((k : ℕ) → k < index → slice_index ends k ≡ sum (declared_lengths (k + 1) bytes))
    → end ≡ sum (declared_lengths (index + 1) bytes) → (k : ℕ) → k < index + 1
    → slice_index (set ends index end) k ≡ sum (declared_lengths (k + 1) bytes)
kept_more ends bytes index end room before is =
    below_more (λ k. slice_index (set ends index end) k ≡ sum (declared_lengths (k + 1) bytes)) index
    (λ k less. get_or-set_other ends index k end 0 (omega arith) ∙ before k less)
    (get_or-set_same ends index end 0 room ∙ is)

pub overflow_add-end : goal.overflow_add-end
overflow_add-end c =
    let next = reads_on c.args.bytes.now c.args.count c.loop-index.index c.field_at.result c.requires (omega arith) c.field_at.type_inv c.field_at.ensures in
    omega arith

pub loop-index-preserved : goal.loop-index-preserved
loop-index-preserved c =
    let next = reads_on c.args.bytes.now c.args.count c.loop-index.index c.field_at.result c.requires (omega arith) c.field_at.type_inv c.field_at.ensures in
    let end : c.loop-index.end + c.field_at.result ≡ sum (declared_lengths (c.loop-index.index + 1) c.args.bytes.now) = ap (λ k. k + c.field_at.result) c.loop-index.invariant.end ∙ sym next.total in
    record {
      long = search rules;
      end = end;
      kept = kept_more c.loop-index.ends c.args.bytes.now c.loop-index.index (c.loop-index.end + c.field_at.result) (omega arith) c.loop-index.invariant.kept end;
    }
