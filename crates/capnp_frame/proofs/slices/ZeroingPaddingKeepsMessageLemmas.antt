-- The padding of a message in a buffer is made zero: the buffer has the same message, whose frame of zero padding
-- is at its front.
use Rattle.std.proofs.Common.{◌≡◌, ℕ, ◌+◌, ◌-◌, ◌*◌, ◌≤◌, List, ◌++◌, length, take, drop, replicate, sym, ap, ◌∙◌, subst, arith, append_assoc, length-append}
use Rattle.std.proofs.lemmas.List.{take_at, drop_at, drop-drop, length-drop, take-take}
use borrow.Rule.Slice.PartMut.{put_mid, post_of}
use Rattle.std.specs.Prelude.{sum}
use Rattle.std.specs.List.{flat_map}
use Rattle.capnp_frame.specs.declared.serialize.segment_table.Padding.TheVariants.{Any, Zero}
use Rattle.capnp_frame.specs.Prelude.{table_field, table_size, padding_len, zero_padded_table, IsTable, KeepsPadding, cut, HasFrame, declared_lengths, declared_padding, declared_segments, DeclaresTable, HoldsMessage}
use Rattle.capnp_frame.proofs.tables.UniqueTableLengthsLemmas.{length-fields}
use Rattle.capnp_frame.proofs.encodings.PlainRequestsTakeFrameLemmas.{zero_padded_is, length-table}
use Rattle.capnp_frame.proofs.tables.TableDeclaredByFieldsLemmas.{table_is, Declared, declared_from_table, length-declared}
use Rattle.capnp_frame.proofs.encodings.DeclaredMessageIsFrontFrameLemmas.{found_from_holds}

-- the padding of the message in a buffer is zeroed: the buffer has the same message
pub record IsZeroed (before after : List ℕ) (count : ℕ) : Type 0 where
  pub holds : HoldsMessage after count
  pub lengths_are : declared_lengths count after ≡ declared_lengths count before
  pub segments_are : declared_segments count after ≡ declared_segments count before
  pub padding : KeepsPadding Zero (declared_padding count after)

pub padding_zeroed : (before zeros : List ℕ) (count start len : ℕ) → HoldsMessage before count → start ≡ 4 * (count + 1)
    → start + len ≡ table_size count → zeros ≡ replicate len 0 → IsZeroed before (put_mid start len before zeros) count
padding_zeroed before zeros count start len holds start_is end_is zeros_are =
    let ns = declared_lengths count before in
    let size = table_size count in
    let many = length-declared count before in
    let few = holds.table.few in
    let room = holds.table.room in
    let all_room = holds.room in
    let table = take size before in
    let rest = drop size before in
    let is : IsTable Any table ns = table_is Any before count holds.table tt in
    let front = table_field (length ns - 1) ++ flat_map table_field ns in
    let front_len : length front ≡ start = omega (arith, length-append (table_field (length ns - 1)) (flat_map table_field ns), length-fields ns) in
    let shorter : take start table ≡ take start before = take-take start size before (omega arith) in
    let fields : take start before ≡ front = sym shorter ∙ ap (take start) is.spelled ∙ take_at front is.padding start front_len in
    let following : post_of start len before ≡ rest = drop-drop len start before ∙ ap (λ k. drop k before) (omega arith) in
    let zeros_fit : zeros ≡ replicate (padding_len ns) 0 = zeros_are ∙ ap (λ k. replicate k 0) (omega arith) in
    let after_is : put_mid start len before zeros ≡ zero_padded_table ns ++ rest = ap (λ l. l ++ (zeros ++ post_of start len before)) fields
    ∙ ap (λ l. front ++ (zeros ++ l)) following ∙ ap (λ l. front ++ (l ++ rest)) zeros_fit ∙ sym (append_assoc front (replicate (padding_len ns) 0) rest) in
    let zero_is : IsTable Zero (zero_padded_table ns) ns = zero_padded_is Zero ns is.can in
    let declared : Declared Zero (zero_padded_table ns ++ rest) ns = declared_from_table (zero_padded_table ns) rest ns zero_is (omega arith) in
    let long : length (zero_padded_table ns) ≡ size = omega (arith, length-table (zero_padded_table ns) ns zero_is) in
    zeroed_as before (zero_padded_table ns ++ rest) (put_mid start len before zeros) count after_is (record {
      holds = record {
        table = subst (DeclaresTable (zero_padded_table ns ++ rest)) many declared.tells;
        room = subst (λ l. size + 8 * sum l ≤ length (zero_padded_table ns ++ rest)) (sym (lens declared)) (omega (arith, length-append (zero_padded_table ns) rest, length-drop size before));
      };
      lengths_are = lens declared;
      segments_are = ap (λ l. cut l (drop size (zero_padded_table ns ++ rest))) (lens declared) ∙ ap (cut ns) (drop_at (zero_padded_table ns) rest size long);
      padding = subst (λ k. KeepsPadding Zero (declared_padding k (zero_padded_table ns ++ rest))) many declared.padding;
    })
  where
    lens : Declared Zero (zero_padded_table (declared_lengths count before) ++ drop (table_size count) before) (declared_lengths count before)
        → declared_lengths count (zero_padded_table (declared_lengths count before) ++ drop (table_size count) before) ≡ declared_lengths count before
    lens declared = subst (λ k. declared_lengths k (zero_padded_table (declared_lengths count before) ++ drop (table_size count) before) ≡ declared_lengths count before) (length-declared count before) declared.lengths

    zeroed_as : (before spelled after : List ℕ) (count : ℕ) → after ≡ spelled → IsZeroed before spelled count → IsZeroed before after count
    zeroed_as before spelled after count is declared = subst (λ l. IsZeroed before l count) (sym is) declared

-- so its framed encoding is at the front
pub zeroed_begins : (before after : List ℕ) (count size total : ℕ) → IsZeroed before after count → size ≡ table_size count
    → total ≡ 8 * sum (declared_lengths count before) → HasFrame Zero after (declared_segments count after) (drop (size + total) after)
zeroed_begins before after count size total zero size_is total_is =
    let sums : sum (declared_lengths count after) ≡ sum (declared_lengths count before) = ap sum zero.lengths_are in
    let place : table_size count + 8 * sum (declared_lengths count after) ≡ size + total = omega arith in
    subst (λ k. HasFrame Zero after (declared_segments count after) (drop k after)) place (found_from_holds Zero after count zero.holds zero.padding).begins
