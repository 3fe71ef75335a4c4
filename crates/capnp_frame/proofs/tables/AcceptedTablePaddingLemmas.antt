-- Which padding of a table is accepted as zero: none after an odd number of lengths, and after an even number a
-- field just where it is zero.
use Rattle.std.proofs.Common.{◌≡◌, ℕ, ◌+◌, ◌*◌, ◌%◌, ◌<◌, ◌≤◌, ◌^◌, zero, suc, ◌⊎◌, inl, inr, List, [], ◌∷◌, length, take, drop, refl, sym, ap, ◌∙◌, subst, arith}
use Rattle.std.proofs.lemmas.List.{drop-take, length-drop, length-take-le}
use Rattle.capnp_frame.specs.declared.serialize.segment_table.Padding.{Padding}
use Rattle.capnp_frame.specs.declared.serialize.segment_table.Padding.TheVariants.{Any, Zero}
use Rattle.capnp_frame.specs.Prelude.{table_field, table_size, KeepsPadding, declared_padding}
use Rattle.capnp_frame.proofs.tables.UniqueTableLengthsLemmas.{table_field-once}

none_kept : (padding : List ℕ) → length padding ≡ 0 → KeepsPadding Zero padding
none_kept [] none = refl
none_kept (byte ∷ padding) none = absurd (omega arith)

-- after an odd number of lengths there is none
pub odd_padding : (bytes : List ℕ) (count : ℕ) → count % 2 ≡ 1 → table_size count ≤ length bytes → KeepsPadding Zero (declared_padding count bytes)
odd_padding bytes count odd room =
    none_kept (declared_padding count bytes) (omega (arith, length-drop (4 * (count + 1)) (take (table_size count) bytes), length-take-le (table_size count) bytes room))

-- after an even number it is a field
even_padding : (bytes : List ℕ) (count n : ℕ) → count % 2 ≡ 0 → table_field n ≡ take 4 (drop (4 * (count + 1)) bytes) → declared_padding count bytes ≡ table_field n
even_padding bytes count n even read =
    let place : table_size count ≡ 4 * (count + 1) + 4 = omega arith in
    ap (λ k. drop (4 * (count + 1)) (take k bytes)) place ∙ drop-take (4 * (count + 1)) 4 bytes ∙ sym read

-- which is zero
pub zero_field_kept : (bytes : List ℕ) (count n : ℕ) → count % 2 ≡ 0 → table_field n ≡ take 4 (drop (4 * (count + 1)) bytes) → n ≡ 0 → KeepsPadding Zero (declared_padding count bytes)
zero_field_kept bytes count n even read none =
    subst (KeepsPadding Zero) (sym (even_padding bytes count n even read ∙ ap table_field none)) refl

-- or not
pub field_rejected : (bytes : List ℕ) (count n : ℕ) → count % 2 ≡ 0 → table_field n ≡ take 4 (drop (4 * (count + 1)) bytes) → n < 2 ^ 32 → (n ≡ 0 → ⊥) → KeepsPadding Zero (declared_padding count bytes) → ⊥
field_rejected bytes count n even read fits some kept =
    let zeros : KeepsPadding Zero (table_field n) = subst (KeepsPadding Zero) (even_padding bytes count n even read) kept in
    some (table_field-once n 0 fits (omega arith) zeros)

-- the first byte
abbrev first : List ℕ → ℕ
first [] = 0
first (byte ∷ bytes) = byte

-- the rule accepts a padding or does not
pub padding_cases : (rule : Padding) (padding : List ℕ) → KeepsPadding rule padding ⊎ (KeepsPadding rule padding → ⊥)
padding_cases Any padding = inl tt
padding_cases Zero [] = inl refl
padding_cases Zero (zero ∷ padding) = elim (padding_cases Zero padding) [
  | inl zeros ↦ inl (ap (λ l. 0 ∷ l) zeros)
  | inr other ↦ inr (λ zeros. other (ap (drop 1) zeros))
]
padding_cases Zero (suc byte ∷ padding) = inr (λ zeros. let none : suc byte ≡ 0 = ap first zeros in absurd (omega arith))
