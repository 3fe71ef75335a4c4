-- The table that is written: it is filled field by field, and its first word and the rest of it are the first
-- chunks.
use Rattle.std.proofs.Common.{◌≡◌, ℕ, ◌+◌, ◌-◌, ◌*◌, ◌<◌, ◌≤◌, inl, inr, List, ◌∷◌, ◌++◌, length, take, []}
use Rattle.std.proofs.Common.{drop, replicate, sym, ap, ◌∙◌, arith, append_assoc, length-append}
use Rattle.std.proofs.lemmas.List.{drop-replicate, length-replicate, take_at, drop_at, drop-drop}
use Rattle.std.proofs.lemmas.List.Concat.{flat_map-append}
use Rattle.std.proofs.lemmas.Bool.Decides.{nat_tests}
use Rattle.std.proofs.lemmas.Bool.{cases_lt}
use Rattle.std.specs.List.{flat_map}
use Rattle.capnp_frame.specs.Prelude.{table_field, table_size, padding_len, zero_padded_table, word_and_rest}
use Rattle.capnp_frame.proofs.tables.UniqueTableLengthsLemmas.{length-fields}

pub parts_two : (table : List ℕ) → 8 < length table → word_and_rest table ≡ take 8 table ∷ drop 8 table ∷ []
parts_two table more = grind (arith, nat_tests)

pub parts_one : (table : List ℕ) → length table ≤ 8 → word_and_rest table ≡ take 8 table ∷ []
parts_one table no_more = grind (arith, nat_tests)

-- the first word is one of them in either case
pub parts_first : (table : List ℕ) → (others : List (List ℕ)) × (word_and_rest table ≡ take 8 table ∷ others)
parts_first table = elim (cases_lt 8 (length table)) [ inl more ↦ (drop 8 table ∷ [], parts_two table more) | inr no_more ↦ ([], parts_one table no_more) ]

-- lengths

-- A table of a given number of segments whose first lengths are filled in, and which is zero after them.
pub record IsTableFilled (count : ℕ) (ns table : List ℕ) : Type 0 where
  pub spelled : table ≡ table_field (count - 1) ++ flat_map table_field ns ++ replicate (table_size count - 4 * (length ns + 1)) 0

pub length-filled : (count : ℕ) (ns table : List ℕ) → IsTableFilled count ns table → length ns ≤ count → 0 < count → length table ≡ table_size count
length-filled count ns table filled fewer some =
    let back : ℕ = table_size count - 4 * (length ns + 1) in
    let all : length table ≡ length (table_field (count - 1) ++ flat_map table_field ns) + length (replicate back 0) = ap length
    filled.spelled ∙ length-append (table_field (count - 1) ++ flat_map table_field ns) (replicate back 0) in
    omega (arith, all, length-append (table_field (count - 1)) (flat_map table_field ns), length-fields ns, length-replicate {A = ℕ} back 0)

-- the number of segments is filled in
pub filled_first : (count : ℕ) (old new : List ℕ) → 0 < count → old ≡ replicate (table_size count) 0 → new ≡ take 0 old ++ table_field (count - 1) ++ drop (0 + 4) old → IsTableFilled count [] new
filled_first count old new some zeros written =
    let following : drop 4 old ≡ replicate (table_size count - 4) 0 = ap (drop 4) zeros ∙ drop-replicate 4 (table_size count) 0 in
    record { spelled = written ∙ ap (λ l. table_field (count - 1) ++ l) following }

-- a length is filled in
pub filled_next : (count : ℕ) (ns old new : List ℕ) (at n : ℕ) → IsTableFilled count ns old → at ≡ 4 * (length ns + 1)
    → new ≡ take at old ++ table_field n ++ drop (at + 4) old → IsTableFilled count (ns ++ n ∷ []) new
filled_next count ns old new at n filled place written =
    let front = table_field (count - 1) ++ flat_map table_field ns in
    let back : ℕ = table_size count - 4 * (length ns + 1) in
    let long : length front ≡ at = omega (arith, length-append (table_field (count - 1)) (flat_map table_field ns), length-fields ns) in
    let before : take at old ≡ front = ap (take at) filled.spelled ∙ take_at front (replicate back 0) at long in
    let zeros : drop at old ≡ replicate back 0 = ap (drop at) filled.spelled ∙ drop_at front (replicate back 0) at long in
    let less : back - 4 ≡ table_size count - 4 * (length (ns ++ n ∷ []) + 1) = omega (arith, length-append ns (n ∷ [])) in
    let following : drop (at + 4) old ≡ replicate (table_size count - 4 * (length (ns ++ n ∷ []) + 1)) 0 = sym
    (drop-drop 4 at old) ∙ ap (drop 4) zeros ∙ drop-replicate 4 back 0 ∙ ap (λ k. replicate k 0) less in
    let more : front ++ table_field n ≡ table_field (count - 1) ++ flat_map table_field (ns ++ n ∷ []) = append_assoc (table_field (count - 1))
    (flat_map table_field ns) (table_field n) ∙ ap (λ l. table_field (count - 1) ++ l) (sym (flat_map-append table_field ns (n ∷ []))) in
    record {
      spelled = written ∙ ap (λ l. l ++ table_field n ++ drop (at + 4) old) before
          ∙ ap (λ l. front ++ table_field n ++ l) following
          ∙ ap (λ l. l ++ replicate (table_size count - 4 * (length (ns ++ n ∷ []) + 1)) 0) more;
    }

-- all lengths are filled in
pub filled_all : (count : ℕ) (ns table : List ℕ) → IsTableFilled count ns table → count ≡ length ns → 0 < count → table ≡ zero_padded_table ns
filled_all count ns table filled all some =
    let following : table_size count - 4 * (length ns + 1) ≡ padding_len ns = omega arith in
    filled.spelled ∙ ap (λ k. table_field (k - 1) ++ flat_map table_field ns ++ replicate (table_size count - 4 * (length ns + 1))
    0) all ∙ ap (λ k. table_field (length ns - 1) ++ flat_map table_field ns ++ replicate k 0) following
