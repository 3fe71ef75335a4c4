-- What the table at the front of bytes says of the message's size: it is accepted where a message is there, or is cut, and a
-- reader rejects others with another kind.
use Rattle.std.proofs.Common.{◌≡◌, Option, ℕ, ◌+◌, ◌-◌, ◌*◌, ◌/◌, ◌<◌, ◌≤◌, inl, inr, List, ◌++◌, length, take, drop, replicate, refl, sym, ap, ◌∙◌, subst, arith, append_assoc, length-append}
use Rattle.std.proofs.lemmas.Bool.{cases_lt}
use Rattle.std.proofs.lemmas.List.{drop_at, length-drop, length-replicate, length-take, take_at}
use Rattle.std.specs.Prelude.{sum}
use Rattle.std.specs.List.{concat}
use lib.Seq.{take-add}
use Rattle.capnp_frame.specs.declared.error.ErrorKind.{ErrorKind}
use Rattle.capnp_frame.specs.declared.error.ErrorKind.TheVariants.{InvalidNumberOfSegments, MessageEndsPrematurely, MessageTooLarge, NonZeroPadding}
use Rattle.capnp_frame.specs.declared.message.options.ReaderOptions.{ReaderOptions}
use Rattle.capnp_frame.specs.declared.serialize.segment_table.Padding.TheVariants.{Zero}
use Rattle.capnp_frame.specs.Prelude.{AreWithin, by_fields, IsTable, KeepsLimit, KeepsPadding, LengthsError, FlatCountError, declared_lengths, declared_padding, lengths, size_in_words, table_size}
use Rattle.capnp_frame.proofs.encodings.DeclaredMessageIsFrontFrameLemmas.{holds_from_begins}
use Rattle.capnp_frame.proofs.encodings.PlainRequestsTakeFrameLemmas.{length-table, length-segments}
use Rattle.capnp_frame.proofs.errors.UniqueErrorLineLemmas.{Unless-after, in_range, within_limit}
use Rattle.capnp_frame.proofs.slices.SliceReadersRejectSameBytesLemmas.{limit_cases}
use Rattle.capnp_frame.proofs.tables.AcceptedTablePaddingLemmas.{padding_cases}
use Rattle.capnp_frame.proofs.tables.TableDeclaredByFieldsLemmas.{declared_from_table}
use Rattle.capnp_c.specs.Fronts.{IsAtFront, MessageError}
use Rattle.capnp_c.specs.Sizes.{IsAcceptedTable, IsRejectedTable, declared_count, declared_size, declared_table_size, table_front}

-- a message that is at the front
pub record TellsFront (options : ReaderOptions) (bytes rest : List ℕ) (segments : List (List ℕ)) : Type 0 where
  pub accepted : IsAcceptedTable options bytes
  pub count : declared_count bytes ≡ length segments
  pub size : declared_size bytes ≡ table_size (length segments) + 8 * size_in_words segments
  pub all : declared_size bytes + length rest ≡ length bytes

pub front_tells : (options : ReaderOptions) (bytes rest : List ℕ) (segments : List (List ℕ)) → IsAtFront options bytes segments rest → TellsFront options bytes rest segments
front_tells options bytes rest segments front =
    let limit = options.traversal_limit_in_words in
    let holds = holds_from_begins Zero bytes segments rest limit (front.encoding, front.is_encoding, front.spelled) front.within in
    let keeps : KeepsLimit (declared_lengths (length segments) bytes) limit = subst (λ l. KeepsLimit l limit) (sym holds.lengths_are) front.within.size in
    let size : declared_size bytes ≡ table_size (length segments) + 8 * size_in_words segments =
    ap (λ k. table_size k + 8 * sum (declared_lengths k bytes)) holds.count ∙ ap (λ l. table_size (length segments) + 8 * sum l) holds.lengths_are in
    let few = holds.holds.table.few in
    let room = holds.holds.room in
    let rest_is = holds.rest_is rest (front.encoding, front.is_encoding, front.spelled) in
    record {
      accepted = record {
        few = omega (arith, few, holds.count);
        keeps = subst (λ k. KeepsLimit (declared_lengths k bytes) limit) (sym holds.count) keeps;
        padding = subst (λ k. KeepsPadding Zero (declared_padding k bytes)) (sym holds.count) holds.padding;
      };
      count = holds.count;
      size = size;
      all = omega (arith, size, room, ap sum holds.lengths_are, ap length rest_is, length-drop (table_size (length segments) + 8 * size_in_words segments) bytes);
    }

-- the bytes of the longest table, where the message after it is cut
pub cut_tells : (options : ReaderOptions) (table : List ℕ) (words there : ℕ) → length table ≡ 2048 → MessageError options table (MessageEndsPrematurely words there)
    → IsAcceptedTable options table × (words ≡ sum (declared_lengths (declared_count table) table))
cut_tells options table words there long =
    Unless-after (λ none. absurd (omega (arith, ap length none, long))) (Unless-after (λ short. absurd (omega (arith, short, long))) counted)
  where
    limit : Option ℕ
    limit = options.traversal_limit_in_words

    count : ℕ
    count = declared_count table

    ns : List ℕ
    ns = declared_lengths count table

    lengths_met : count < 512 → LengthsError by_fields Zero limit (MessageEndsPrematurely words there) table count ns → IsAcceptedTable options table × (words ≡ sum ns)
    lengths_met few (inl (over, is)) = absurd (cc)
    lengths_met few (inr (not_over, inl (short, is))) = absurd (omega (arith, short, few, long))
    lengths_met few (inr (not_over, inr (not_short, inl (rejected, is)))) = absurd (cc)
    lengths_met few (inr (not_over, inr (not_short, inr (not_rejected, (short, is))))) = (
      record {
        few = few;
        keeps = elim (limit_cases ns limit) [ inl over ↦ absurd (not_over over) | inr keeps ↦ keeps ];
        padding = elim (padding_cases Zero (declared_padding count table)) [ inl kept ↦ kept | inr rejected ↦ absurd (not_rejected rejected) ];
      },
      cc,
    )

    counted : FlatCountError by_fields Zero limit (MessageEndsPrematurely words there) table count → IsAcceptedTable options table × (words ≡ sum ns)
    counted (inl (out, is)) = absurd (cc)
    counted (inr (within, inl (short, is))) = elim (cases_lt count 512) [ inl few ↦ absurd (omega (arith, short, few, long)) | inr many ↦ absurd (within (inr many)) ]
    counted (inr (within, inr (not_short, met))) = elim (cases_lt count 512) [ inl few ↦ lengths_met few met | inr many ↦ absurd (within (inr many)) ]

-- no table is accepted and rejected
pub not_both : (options : ReaderOptions) (table : List ℕ) (kind : ErrorKind) → length table ≡ 2048 → IsAcceptedTable options table → IsRejectedTable options table kind → ⊥
not_both options table kind long accepted rejected =
    let count = declared_count table in
    let few = accepted.few in
    Unless-after (λ none. absurd (omega (arith, ap length none, long))) (Unless-after (λ short. absurd (omega (arith, short, long)))
    (Unless-after (in_range count (omega arith) few) (Unless-after (λ short. absurd (omega (arith, short, few, long)))
    (Unless-after (within_limit (declared_lengths count table) options.traversal_limit_in_words accepted.keeps)
    (Unless-after (λ short. absurd (omega (arith, short, few, long))) (Unless-after (λ padded. padded accepted.padding)
    (λ cuts. rejected.1 _ _ cuts.1))))))) rejected.0

-- the front of bytes is as long as the longest table
pub front_long : (bytes : List ℕ) → length (table_front bytes) ≡ 2048
front_long bytes =
    let zeros : List ℕ = replicate (2048 - length bytes) 0 in
    let long : length zeros ≡ 2048 - length bytes = length-replicate (2048 - length bytes) 0 in
    omega (arith, length-append (take 2048 bytes) zeros, length-take 2048 bytes, long)

-- the front of bytes that begin with a table begins with it
table_at_front : (table rest : List ℕ) → length table ≤ 2048 → (others : List ℕ) × (table_front (table ++ rest) ≡ table ++ others)
table_at_front table rest fits =
    let all = table ++ rest in
    let more = 2048 - length table in
    let zeros : List ℕ = replicate (2048 - length all) 0 in
    let size : 2048 ≡ length table + more = omega arith in
    let front : take 2048 all ≡ table ++ take more rest = ap (λ k. take k all) size ∙ take-add (length table) more all
    ∙ ap (λ l. l ++ take more (drop (length table) all)) (take_at table rest (length table) refl)
    ∙ ap (λ l. table ++ take more l) (drop_at table rest (length table) refl) in
    (take more rest ++ zeros, ap (λ l. l ++ zeros) front ∙ append_assoc table (take more rest) zeros)

-- and an accepted table tells the message's size
pub table_accepted : (options : ReaderOptions) (table others ns : List ℕ) → IsTable Zero table ns → AreWithin ns options.traversal_limit_in_words
    → IsAcceptedTable options (table ++ others) × (declared_size (table ++ others) ≡ table_size (length ns) + 8 * sum ns)
    × (declared_table_size (table ++ others) ≡ table_size (length ns))
table_accepted options table others ns is within =
    let limit = options.traversal_limit_in_words in
    let all = table ++ others in
    let few : length ns < 512 = within.few in
    let declared = declared_from_table table others ns is few in
    let keeps : KeepsLimit (declared_lengths (length ns) all) limit = subst (λ l. KeepsLimit l limit) (sym declared.lengths) within.size in (
      record {
        few = omega (arith, few, declared.count);
        keeps = subst (λ k. KeepsLimit (declared_lengths k all) limit) (sym declared.count) keeps;
        padding = subst (λ k. KeepsPadding Zero (declared_padding k all)) (sym declared.count) declared.padding;
      },
      ap (λ k. table_size k + 8 * sum (declared_lengths k all)) declared.count ∙ ap (λ l. table_size (length ns) + 8 * sum l) declared.lengths,
      ap table_size declared.count,
    )

-- as the table of a message at the front does
pub front_is : (options : ReaderOptions) (bytes rest : List ℕ) (segments : List (List ℕ)) → IsAtFront options bytes segments rest
    → IsAcceptedTable options (table_front bytes) × (declared_size (table_front bytes) + length rest ≡ length bytes)
    × (declared_table_size (table_front bytes) ≤ length bytes)
front_is options bytes rest segments front =
    let frame = front.is_encoding in
    let table = frame.table in
    let ns = lengths segments in
    let few : length ns < 512 = front.within.few in
    let long = length-table table ns frame.lengths_declared in
    let bytes_are : bytes ≡ table ++ (concat segments ++ rest) = front.spelled ∙ ap (λ l. l ++ rest) frame.spelled ∙ append_assoc table (concat segments) rest in
    let starts = table_at_front table (concat segments ++ rest) (omega (arith, long, few)) in
    let front_bytes : table ++ starts.0 ≡ table_front bytes = sym (ap table_front bytes_are ∙ starts.1) in
    let told = table_accepted options table starts.0 ns frame.lengths_declared front.within in
    let segments_long = length-segments segments frame.whole in (
      subst (IsAcceptedTable options) front_bytes told.0,
      omega (arith, ap declared_size front_bytes, told.1, long, segments_long, ap length bytes_are, length-append table (concat segments ++ rest), length-append (concat segments) rest),
      omega (arith, ap declared_table_size front_bytes, told.2, long, ap length bytes_are, length-append table (concat segments ++ rest)),
    )
