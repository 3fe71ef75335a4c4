-- With which kinds a literal group fails in its word, its count or its run, and a tagged group in its word.
use Rattle.std.proofs.Common.{◌≡◌, ℕ, ◌+◌, ◌*◌, ◌<◌, ◌≤◌, ◌⊎◌, inl, inr, lit<, lit≤, Option, Some, None, List, [], ◌∷◌, ◌++◌, length, refl, sym, ap, ◌∙◌, subst, arith, length-append}
use Rattle.std.proofs.lemmas.List.{nil_from_length}
use Rattle.capnp_frame.specs.declared.error.ErrorKind.{ErrorKind}
use Rattle.capnp_frame.specs.declared.error.ErrorKind.TheVariants.{PrematureEndOfPackedInput, PackedInputDidNotEndCleanlyOnASegmentBoundary}
use Rattle.capnp_frame.specs.Prelude.{IfKnown, RequestError, RunsShort}
use Rattle.capnp_pack.specs.Prelude.{IsWord, marked, ErrorAfter, MarkedAt, marked_count, CutError, CountedRunError}
use Rattle.capnp_pack.proofs.errors.GroupErrorLemmas.{literal_cut, literal_long, literal_run_cut, tagged_cut}
use Rattle.capnp_pack.proofs.words.MarkedByteReadLemmas.{full_word, marks_some}
use Rattle.std.proofs.lemmas.Bool.{cases_lt}

none_shorter : (raw : List ℕ) → length raw < 1 → raw ≡ []
none_shorter raw short = nil_from_length raw (omega arith)

pub count_missing : (F : Type 0) (n : ℕ) (old : Option (List ℕ)) (kind : ErrorKind) → F ⊎ CutError 1 old kind → F ⊎ RequestError CountedRunError n old kind
count_missing F n old kind (inl failed) = inl failed
count_missing F n None kind (inr cut_error) = inr ([], n, inl (refl, cut_error.1))
count_missing F n (Some raw) kind (inr cut_error) = inr (inl (none_shorter raw cut_error.0, cut_error.1))

pub count_large : (n further : ℕ) (old mid : Option (List ℕ)) → further < 256 → n < 8 * further →
    IfKnown old mid (λ raw left. raw ≡ further ∷ left) → RequestError CountedRunError n old PackedInputDidNotEndCleanlyOnASegmentBoundary
count_large n further None mid low long at = (further ∷ [], n, inr (further, [], low, refl, inl (long, refl)))
count_large n further (Some x) None low long at = absurd at
count_large n further (Some x) (Some y) low long at = inr (further, y, low, at, inl (long, refl))

pub run_short : (F : Type 0) (n further count : ℕ) (old mid : Option (List ℕ)) (kind : ErrorKind) → further < 256 → count ≡ 8 * further → count ≤ n →
    IfKnown old mid (λ raw left. raw ≡ further ∷ left) → F ⊎ RequestError RunsShort count mid kind → F ⊎ RequestError CountedRunError n old kind
run_short F n further count old mid kind low long fits at (inl failed) = inl failed
run_short F n further count None None kind low long fits at (inr errors) = inr (1 ∷ [], 8, inr (1, [], lit< tt, refl, inr (lit≤ tt, (lit< tt, errors.2.1))))
run_short F n further count None (Some y) kind low long fits at (inr errors) = inr (1 ∷ [], 8, inr (1, [], lit< tt, refl, inr (lit≤ tt, (lit< tt, errors.1))))
run_short F n further count (Some x) None kind low long fits at (inr errors) = absurd at
run_short F n further count (Some x) (Some y) kind low long fits at (inr errors) = inr (inr (further, y, low, at, inr (subst (λ k. k ≤ n) long fits, subst (λ k. RunsShort y k kind) long errors)))

-- a word's marked bytes are missing
cut : (tag n : ℕ) (raw : List ℕ) → 0 < n → 0 < tag → (tag < 255) ⊎ (tag ≡ 255) → length raw < marked_count tag 8 → ErrorAfter tag raw n PrematureEndOfPackedInput
cut tag n raw some low (inl less) short = tagged_cut tag n raw some low less short
cut tag n raw some low (inr full) short =
    let eight : length raw < marked_count 255 8 = subst (λ t. length raw < marked_count t 8) full short in
    let less : length raw < 8 = eight in
    subst (λ t. ErrorAfter t raw n PrematureEndOfPackedInput) (sym full) (literal_cut raw n some (omega arith))

full_or_less : (tag : ℕ) → tag < 256 → (tag < 255) ⊎ (tag ≡ 255)
full_or_less tag high = elim (cases_lt tag 255) [ inl less ↦ inl less | inr more ↦ inr (omega arith) ]

pub word_cut : (F : Type 0) (tag m n : ℕ) (old : Option (List ℕ)) (kind : ErrorKind) → m ≡ 8 → 0 < n → 0 < tag → tag < 256 →
    F ⊎ CutError (marked_count tag m) old kind → F ⊎ RequestError (ErrorAfter tag) n old kind
word_cut F tag m n old kind eight some low high (inl failed) = inl failed
word_cut F tag m n None kind eight some low high (inr cut_error) = inr ([], n, subst (ErrorAfter tag [] n) (sym cut_error.1) (cut tag n [] some low (full_or_less tag high) (marks_some 8 tag low high)))
word_cut F tag m n (Some raw) kind eight some low high (inr cut_error) =
    inr (subst (ErrorAfter tag raw n) (sym cut_error.1) (cut tag n raw some low (full_or_less tag high) (subst (λ k. length raw < marked_count tag k) eight cut_error.0)))

-- after a word
after_word : (word raw : List ℕ) (n m : ℕ) (kind : ErrorKind) → IsWord word → n ≡ m + 8 → CountedRunError raw m kind → ErrorAfter 255 (word ++ raw) n kind
after_word word raw n m kind is room (inl (none, early)) =
    subst (λ l. ErrorAfter 255 (word ++ l) n kind) (sym none) (subst (ErrorAfter 255 (word ++ []) n) (sym early) (literal_cut (word ++ []) n (omega arith) (nine word is)))
  where
    nine : (w : List ℕ) → IsWord w → length (w ++ []) < 9
    nine w is = omega (arith, length-append w [])
after_word word raw n m kind is room (inr (further, left, low, at, inl (long, over))) =
    subst (λ l. ErrorAfter 255 (word ++ l) n kind) (sym at)
    (subst (ErrorAfter 255 (word ++ further ∷ left) n) (sym over) (literal_long word left further n (omega arith) is low (omega arith)))
after_word word raw n m kind is room (inr (further, left, low, at, inr (fits, short))) =
    subst (λ l. ErrorAfter 255 (word ++ l) n kind) (sym at) (literal_run_cut word left further n kind (omega arith) is low (omega arith) short)

pub run_cut : (F : Type 0) (tag n m : ℕ) (word : List ℕ) (old mid : Option (List ℕ)) (kind : ErrorKind) → tag ≡ 255 → IsWord word → n ≡ m + 8 →
    IfKnown old mid (MarkedAt tag word) → F ⊎ RequestError CountedRunError m mid kind → F ⊎ RequestError (ErrorAfter tag) n old kind
run_cut F tag n m word old mid kind full is room at (inl failed) = inl failed
run_cut F tag n m word None None kind full is room at (inr errors) = inr (
  word ++ errors.0,
  errors.1 + 8,
  subst (λ t. ErrorAfter t (word ++ errors.0) (errors.1 + 8) kind) (sym full) (after_word word errors.0 (errors.1 + 8) errors.1 kind is refl errors.2),
)
run_cut F tag n m word None (Some y) kind full is room at (inr errors) = inr (word ++ y, n, subst (λ t. ErrorAfter t (word ++ y) n kind) (sym full) (after_word word y n m kind is room errors))
run_cut F tag n m word (Some x) None kind full is room at (inr errors) = absurd at
run_cut F tag n m word (Some x) (Some y) kind full is room at (inr errors) =
    let front : x ≡ word ++ y = at.0 ∙ ap (λ k. marked k word ++ y) full ∙ ap (λ l. l ++ y) (full_word word is).0 in
    inr (subst (λ t. ErrorAfter t x n kind) (sym full) (subst (λ l. ErrorAfter 255 l n kind) (sym front) (after_word word y n m kind is room errors)))
