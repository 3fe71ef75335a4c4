-- The message that bytes declare by the numbers of their table is the one whose frame is at their front, and the
-- other way round.
use Rattle.std.proofs.Common.{◌≡◌, ℕ, ◌+◌, ◌*◌, Option, List, [], ◌∷◌, ◌++◌, length, take, drop, refl, sym}
use Rattle.std.proofs.Common.{ap, ◌∙◌, subst, arith, append_assoc, length-append}
use Rattle.std.proofs.lemmas.List.{take-take, take-append-drop, length-drop, length-take-le, drop-take}
use Rattle.std.proofs.lemmas.List.Sums.{sum_by-cons}
use lib.Seq.{take-add}
use Rattle.std.specs.Prelude.{sum}
use Rattle.std.specs.List.{concat, AllByRecursion}
use Rattle.capnp_frame.specs.Prelude.{IsWholeWords, lengths, size_in_words, table_size, KeepsPadding, IsTable, cut, KeepsLimit, AreWithin, IsWithin, HasFrame, number, declared_lengths, declared_padding, declared_segments, DeclaresTable, HoldsMessage}
use Rattle.capnp_frame.specs.declared.serialize.segment_table.Padding.{Padding}
use Rattle.capnp_frame.specs.declared.serialize.segment_table.Padding.TheVariants.{Any}
use Rattle.capnp_frame.proofs.tables.PartsCutAtRunningSumsLemmas.{concat-cut, length-cut}
use Rattle.capnp_frame.proofs.encodings.MessageFoundByRequestsLemmas.{lengths-cut}
use Rattle.capnp_frame.proofs.encodings.PlainRequestsTakeFrameLemmas.{length-table, length-segments}
use Rattle.capnp_frame.proofs.encodings.UniqueDivisionIntoEncodingsLemmas.{frames_part}
use Rattle.capnp_frame.proofs.sinks.JoinedChunkListLemmas.{length-lengths}
use Rattle.capnp_frame.proofs.tables.TableDeclaredByFieldsLemmas.{length-declared, table_is, Declared, declared_from_table}

-- only a given number of bytes are cut
pub cut-take : (ns bytes : List ℕ) → cut ns bytes ≡ cut ns (take (8 * sum ns) bytes)
cut-take [] bytes = refl
cut-take (n ∷ ns) bytes =
    let total : sum (n ∷ ns) ≡ n + sum ns = sum_by-cons (λ x. x) n ns in
    let all : 8 * sum (n ∷ ns) ≡ 8 * n + 8 * sum ns = omega arith in
    let first : take (8 * n) (take (8 * sum (n ∷ ns)) bytes) ≡ take (8 * n) bytes = take-take (8 * n) (8 * sum (n ∷ ns)) bytes (omega arith) in
    let others : drop (8 * n) (take (8 * sum (n ∷ ns)) bytes) ≡ take (8 * sum ns) (drop (8 * n) bytes) = ap (λ k. drop (8 * n) (take k bytes)) all ∙ drop-take (8 * n) (8 * sum ns) bytes in
    ap (λ l. take (8 * n) bytes ∷ l) (cut-take ns (drop (8 * n) bytes))
    ∙ ap (λ l. take (8 * n) bytes ∷ cut ns l) (sym others)
    ∙ ap (λ l. l ∷ cut ns (drop (8 * n) (take (8 * sum (n ∷ ns)) bytes))) (sym first)

-- a message that a buffer has after a table is the one at its front
pub record Found (rule : Padding) (bytes : List ℕ) (count : ℕ) : Type 0 where
  pub begins : HasFrame rule bytes (declared_segments count bytes) (drop (table_size count + 8 * sum (declared_lengths count bytes)) bytes)
  pub lengths_are : lengths (declared_segments count bytes) ≡ declared_lengths count bytes

pub found_from_holds : (rule : Padding) (bytes : List ℕ) (count : ℕ) → HoldsMessage bytes count → KeepsPadding rule (declared_padding count bytes) → Found rule bytes count
found_from_holds rule bytes count holds kept =
    let ns = declared_lengths count bytes in
    let size = table_size count in
    let total = 8 * sum ns in
    let room = holds.room in
    let body = take total (drop size bytes) in
    let long : length body ≡ total = length-take-le total (drop size bytes) (omega (arith, length-drop size bytes)) in
    let same : declared_segments count bytes ≡ cut ns body = cut-take ns (drop size bytes) in
    let parts = lengths-cut ns body long in
    let are : lengths (declared_segments count bytes) ≡ ns = ap lengths same ∙ parts.0 in
    let joined : concat (declared_segments count bytes) ≡ body = ap concat same ∙ concat-cut ns body long in
    let encoding = take (size + total) bytes in
    record {
      begins = (
        encoding,
        record {
          table = take size bytes;
          lengths_declared = subst (IsTable rule (take size bytes)) (sym are) (table_is rule bytes count holds.table kept);
          whole = subst (AllByRecursion IsWholeWords) (sym same) parts.1;
          spelled = take-add size total bytes ∙ ap (λ l. take size bytes ++ l) (sym joined);
        },
        sym (take-append-drop (size + total) bytes),
      );
      lengths_are = are;
    }

-- and a message at its front is one that it has after a table
pub record HoldsFront (rule : Padding) (bytes : List ℕ) (segments : List (List ℕ)) : Type 0 where
  pub holds : HoldsMessage bytes (length segments)
  pub lengths_are : declared_lengths (length segments) bytes ≡ lengths segments
  pub padding : KeepsPadding rule (declared_padding (length segments) bytes)
  pub count : number bytes + 1 ≡ length segments
  pub segments_are : declared_segments (length segments) bytes ≡ segments
  pub rest_is : (rest : List ℕ) → HasFrame rule bytes segments rest → rest ≡ drop (table_size (length segments) + 8 * size_in_words segments) bytes

pub holds_from_begins : (rule : Padding) (bytes : List ℕ) (segments : List (List ℕ)) (rest : List ℕ) (limit : Option ℕ) → HasFrame rule bytes segments rest → IsWithin segments limit → HoldsFront rule bytes segments
holds_from_begins rule bytes segments rest limit (encoding, frame, is) within =
    let many = length-lengths segments in
    let few = within.few in
    let bytes_are : bytes ≡ frame.table ++ (concat segments ++ rest) = is ∙ ap (λ l. l ++ rest) frame.spelled ∙ append_assoc frame.table (concat segments) rest in
    let declared : Declared rule bytes (lengths segments) = subst (λ l. Declared rule l (lengths segments)) (sym bytes_are)
    (declared_from_table frame.table (concat segments ++ rest) (lengths segments) frame.lengths_declared few) in
    let declared_are : declared_lengths (length segments) bytes ≡ lengths segments = subst (λ k. declared_lengths k bytes ≡ lengths segments) many declared.lengths in
    let tells : DeclaresTable bytes (length segments) = subst (DeclaresTable bytes) many declared.tells in
    let long : length bytes ≡ length frame.table + (length (concat segments) + length rest) = ap length bytes_are
    ∙ length-append frame.table (concat segments ++ rest)
    ∙ ap (λ k. length frame.table + k) (length-append (concat segments) rest) in
    let table_len = length-table frame.table (lengths segments) frame.lengths_declared in
    let body_len = length-segments segments frame.whole in
    let total : sum (declared_lengths (length segments) bytes) ≡ size_in_words segments = ap sum declared_are in
    let holds : HoldsMessage bytes (length segments) = record { table = tells; room = omega arith } in
    let kept : KeepsPadding rule (declared_padding (length segments) bytes) = subst (λ k. KeepsPadding rule (declared_padding k bytes)) many declared.padding in
    let found = found_from_holds rule bytes (length segments) holds kept in
    let parts = λ (left : List ℕ) (begins : HasFrame rule bytes segments left). frames_part found.begins.0 begins.0
    (drop (table_size (length segments) + 8 * sum (declared_lengths (length segments) bytes)) bytes) left
    (declared_segments (length segments) bytes) segments found.begins.1 begins.1 (sym found.begins.2 ∙ begins.2) in
    record {
      holds = holds;
      lengths_are = declared_are;
      padding = kept;
      count = declared.count ∙ many;
      segments_are = (parts rest (encoding, frame, is)).1;
      rest_is = λ left begins. sym (parts left begins).2 ∙ ap (λ k. drop (table_size (length segments) + 8 * k) bytes) total;
    }

-- the declared lengths are within the limit, where they keep it
pub within_declared : (bytes : List ℕ) (count : ℕ) (limit : Option ℕ) → HoldsMessage bytes count → KeepsLimit (declared_lengths count bytes) limit → IsWithin (declared_segments count bytes) limit
within_declared bytes count limit holds keeps =
    let len = length-declared count bytes in
    let some = holds.table.some in
    let few = holds.table.few in
    subst (λ l. AreWithin l limit) (sym (found_from_holds Any bytes count holds tt).lengths_are) (record { some = omega arith; few = omega arith; each = holds.table.lengths.each; size = keeps })

pub length-declared_segments : (count : ℕ) (bytes : List ℕ) → length (declared_segments count bytes) ≡ count
length-declared_segments count bytes = length-cut (declared_lengths count bytes) (drop (table_size count) bytes) ∙ length-declared count bytes
