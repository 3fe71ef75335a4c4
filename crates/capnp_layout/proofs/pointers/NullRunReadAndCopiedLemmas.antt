-- Runs of null pointers: read as trees of no words, the same in canonical form, and copied as the zero words that
-- they are.
use Rattle.std.proofs.Common.{◌≡◌, ◌⊎◌, inl, inr, ℕ, zero, suc, ◌+◌, ◌≤◌, Bool, true, false, List, [], ◌∷◌, ◌++◌, Some, slice_get, slice_index_or, length, take, drop, refl, sym, ◌∙◌, ap, arith}
use Rattle.std.proofs.Common.{length-take, length-drop}
use Rattle.std.proofs.lemmas.List.{drop-drop}
use Rattle.std.proofs.lemmas.Option.{slice_get-get_or}
use Rattle.capnp_layout.specs.Prelude.{words_from, null, Trees, none, tree, depth, total_words, keep_word, cut_zeros, trim, places, is_null as null_there, At, nowhere, at, output, run, AllHaveRoom, put, fill, AreNull, least_size, output_body_of}
use Rattle.capnp_layout.specs.declared.pointer.StructSize.{StructSize}
use Rattle.capnp_layout.specs.declared.object.Body.TheVariants.{Struct}
use Rattle.capnp_layout.proofs.words.WordsOfBytesLemmas.{take-add}
use Rattle.capnp_layout.proofs.layouts.PutWordsCombinedLemmas.{put_none, put_both, length-put}
use Rattle.capnp_layout.proofs.words.TrailingZeroRemovalIdempotenceLemmas.{cut_zeros-cut_zeros}
use Rattle.capnp_layout.proofs.trees.TrimCommutesWithPartsLemmas.{cut_words}
use Rattle.capnp_layout.proofs.words.LengthWithoutTrailingZerosLemmas.{most_within}
use Rattle.capnp_layout.proofs.words.SubsliceLengthAndFirstWordLemmas.{drop_first}
use Rattle.capnp_layout.proofs.pointers.LocalObjectIsAtLemmas.{word_there}

-- a given number of nulls
abbrev pub nulls : ℕ → Trees
nulls zero = none
nulls (suc n) = tree null none (nulls n)

pub shallow_nulls : (nesting n : ℕ) → depth (nulls n) ≤ nesting
shallow_nulls nesting zero = omega arith
shallow_nulls nesting (suc n) = omega (arith, shallow_nulls nesting n)

pub roomy_nulls : (n : ℕ) → AllHaveRoom (nulls n)
roomy_nulls zero = tt
roomy_nulls (suc n) = (refl, tt, roomy_nulls n)

trim_nulls : (n : ℕ) → trim (nulls n) ≡ nulls n
trim_nulls zero = refl
trim_nulls (suc n) = ap (λ (t : Trees). tree null none t) (trim_nulls n)

pub nulls_output : (c : Bool) (n : ℕ) → output c (nulls n) ≡ nulls n
nulls_output true n = trim_nulls n
nulls_output false n = refl

pub nulls_have_no_words : (n : ℕ) → total_words (nulls n) ≡ 0
nulls_have_no_words zero = refl
nulls_have_no_words (suc n) = omega (arith, nulls_have_no_words n)

-- the first of them, and the others
record FirstNull (words : List ℕ) (start n : ℕ) : Type 0 where
  word : slice_get words start ≡ Some 0
  rest : AreNull words (start + 1) n
  words_are : words_from words start (suc n) ≡ 0 ∷ words_from words (start + 1) n

keep_none : (rest : List ℕ) (word : ℕ) → length (keep_word rest word) ≡ 0 → (word ≡ 0) × (length rest ≡ 0)
keep_none [] zero e = (refl, refl)
keep_none [] (suc word) e = absurd (omega (arith, e))
keep_none (next ∷ rest) word e = absurd (omega (arith, e))

first_null : (words : List ℕ) (start n : ℕ) → start + suc n ≤ length words → AreNull words start (suc n) → FirstNull words start n
first_null words start n room are =
    let split : words_from words start (suc n) ≡ slice_index_or words start 0 ∷ words_from words (start + 1) n =
    ap (λ (l : List ℕ). take (suc n) l) (drop_first words start (omega arith)) in
    let both = keep_none (cut_zeros (words_from words (start + 1) n)) (slice_index_or words start 0) (ap (λ (l : List ℕ). length (cut_zeros l)) (sym split) ∙ are) in
    record {
      word = slice_get-get_or words start 0 (omega arith) ∙ ap (λ (w : ℕ). Some w) both.0;
      rest = both.1;
      words_are = split ∙ ap (λ (w : ℕ). w ∷ words_from words (start + 1) n) both.0;
    }

-- they are where the words are zero
pub nulls_are_at : (m : List (List ℕ)) (segment : ℕ) (words : List ℕ) (start n : ℕ) → slice_get m segment ≡ Some words → start + n ≤ length words → AreNull words start n
    → At m (places segment start n) (nulls n) 0
nulls_are_at m segment words start zero there room are = nowhere
nulls_are_at m segment words start (suc n) there room are =
    let f = first_null words start n room are in
    at (null_there (word_there m (record { segment = segment; word = start }) words 0 there f.word)) nowhere
    (nulls_are_at m segment words (start + 1) n there (omega arith) f.rest)

-- they are put into their slots as the words that they are
pub nulls_filled : (words : List ℕ) (start n slot next : ℕ) (block : List ℕ) → start + n ≤ length words → AreNull words start n → slot + n ≤ length block
    → fill (run slot n) next (nulls n) block ≡ put slot (words_from words start n) block
nulls_filled words start zero slot next block room are fits = sym (put_none slot block)
nulls_filled words start (suc n) slot next block room are fits =
    let f = first_null words start n room are in
    let rest : List ℕ = words_from words (start + 1) n in
    let long : length (words_from words (start + 1) n) ≡ n = omega (arith, length-take n (drop (start + 1) words), length-drop (start + 1) words) in
    ap (λ (b : List ℕ). fill (run (slot + 1) n) (next + 0 + 0) (nulls n) (put slot (0 ∷ []) b)) (put_none next block)
    ∙ nulls_filled words (start + 1) n (slot + 1) (next + 0 + 0) (put slot (0 ∷ []) block) (omega arith) f.rest (omega (arith, length-put slot (0 ∷ []) block (omega arith)))
    ∙ put_both slot (0 ∷ []) rest block (omega (arith, long))
    ∙ ap (λ (l : List ℕ). put slot l block) (sym f.words_are)

-- Where the kept pointers of a struct are null, it keeps none of them, or keeps all of its data.
pub none_or_whole : (c : Bool) (words : List ℕ) (start : ℕ) (from size : StructSize) → Struct size ≡ output_body_of c words start (Struct from)
    → AreNull words (start + from.data_words) size.pointers → (size.pointers ≡ 0) ⊎ (size.data_words ≡ from.data_words)
none_or_whole false words start from size is are =
    let same : size ≡ from = cc in
    inr (ap (λ (s : StructSize). s.data_words) same)
none_or_whole true words start from size is are =
    let least : size ≡ least_size words start from 1 = cc in
    let kept_is : size.pointers ≡ length (cut_zeros (words_from words (start + from.data_words) from.pointers)) = omega (arith, ap (λ (s : StructSize). s.pointers) least) in
    let kept = cut_words words (start + from.data_words) from.pointers size.pointers kept_is (omega (arith, kept_is, most_within words (start + from.data_words) from.pointers)) in
    inl (kept_is ∙ ap length (sym (cut_zeros-cut_zeros (words_from words (start + from.data_words) from.pointers)) ∙ ap cut_zeros kept) ∙ are)

pub seam : (words : List ℕ) (start d e q : ℕ) → (q ≡ 0) ⊎ (e ≡ d) → words_from words start (e + q) ≡ words_from words start e ++ words_from words (start + d) q
seam words start d e q (inl no_pointers) =
    take-add e q (drop start words) ∙ ap (λ (k : ℕ). words_from words start e ++ take k (drop e (drop start words))) no_pointers
    ∙ sym (ap (λ (k : ℕ). words_from words start e ++ words_from words (start + d) k) no_pointers)
seam words start d e q (inr all_data) =
    take-add e q (drop start words) ∙ ap (λ (l : List ℕ). words_from words start e ++ take q l) (drop-drop e start words)
    ∙ ap (λ (k : ℕ). words_from words start e ++ words_from words (start + k) q) all_data
