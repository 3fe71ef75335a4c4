-- A measure returns the words of a value, or of a part, where there are fewer than 2 ^ 29, and else fails with
-- their number.
use Rattle.std.proofs.Common.{◌≡◌, ℕ, ◌<◌, ◌≤◌, ◌^◌, Bool, false, Result, Ok, Err, MatchResult, inl, inr, sym, ◌∙◌, ap, arith}
use Rattle.std.specs.Result.{IsErrAnd}
use Rattle.capnp_frame.specs.declared.error.Error.{Error}
use Rattle.capnp_frame.specs.declared.error.ErrorKind.{ErrorKind}
use Rattle.capnp_layout.specs.Prelude.{Trees, total_words, output, AllHaveRoom, too_large}
use Rattle.capnp_wire.specs.Prelude.{HasWords, WordsError, HasPart}
use Rattle.capnp_wire.specs.declared.traits.TreeWords.{TreeWords}
use Rattle.capnp_wire.proofs.views.ValueAsPartTwoMeasuresLemmas.{same_tree_words}
use Rattle.capnp_values.specs.Measured.{tree_words, MeasuresValue}
use Rattle.capnp_values.proofs.values.MeasureOutcomeIsUniqueLemmas.{ok_not_err, same_words}

-- a number of words is returned where it fits
abbrev pub Fitted : Bool → ℕ → Result ℕ Error → Type 0
Fitted c total r = MatchResult r (λ number. (number ≡ total) × (number < 2 ^ 29)) (λ error. (2 ^ 29 ≤ total) × (error.kind ≡ too_large c total))

abbrev pub FittedPart : TreeWords → Result TreeWords Error → Type 0
FittedPart words r = MatchResult r (λ part. (part ≡ words) × (words.untrimmed < 2 ^ 29)) (λ error. (2 ^ 29 ≤ words.untrimmed) × (error.kind ≡ too_large false words.untrimmed))

-- trees that have room, by their words
abbrev pub AreMeasured : (Trees → Type 0) → Bool → TreeWords → Type 0
AreMeasured h c words = (trees : Trees) × h trees × AllHaveRoom trees × (words ≡ tree_words c trees)

-- the words of a value
pub whole_returned : (h : Trees → Type 0) (r : ErrorKind → Type 0) (c : Bool) (words : TreeWords) (res : Result ℕ Error) → AreMeasured h c words → Fitted c words.output res
    → MatchResult res (λ n. HasWords h c n) (λ error. WordsError h r c error.kind)
whole_returned h r c words (Ok n) t f =
    record { trees = t.0; tree_is = t.1; rooms = t.2; words_are = f.0 ∙ ap (λ (w : TreeWords). w.output) t.3; few = f.1 }
whole_returned h r c words (Err error) t f =
    let total : words.output ≡ total_words (output c t.0) = ap (λ (w : TreeWords). w.output) t.3 in
    inr (t.0, t.1, omega (arith, f.0, total), f.1 ∙ ap (too_large c) total)

fitted_found : (c : Bool) (total words : ℕ) (r : Result ℕ Error) → Fitted c total r → words ≡ total → words < 2 ^ 29 → r ≡ Ok words
fitted_found c total words (Ok n) f is few = ap (λ (k : ℕ). Ok k) (f.0 ∙ sym is)
fitted_found c total words (Err e) f is few = absurd (omega (arith, f.0, is, few))

fitted_error : (c : Bool) (total words : ℕ) (kind : ErrorKind) (r : Result ℕ Error) → Fitted c total r → words ≡ total → 2 ^ 29 ≤ words → kind ≡ too_large c words
    → IsErrAnd r (λ e. e.kind ≡ kind)
fitted_error c total words kind (Ok n) f is many k = absurd (omega (arith, f.0, f.1, is, many))
fitted_error c total words kind (Err e) f is many k = f.1 ∙ ap (too_large c) (sym is) ∙ sym k

pub whole_found : (h : Trees → Type 0) (r : ErrorKind → Type 0) (c : Bool) (words : TreeWords) (returned : Result TreeWords Error) (res : Result ℕ Error) → returned ≡ Ok words
    → MeasuresValue h r c returned → Fitted c words.output res → (n : ℕ) → HasWords h c n → res ≡ Ok n
whole_found h r c words returned res was m f n w =
    let same : words ≡ tree_words c w.trees = same_words returned words (tree_words c w.trees) was (m.found w.trees w.tree_is) in
    fitted_found c words.output n res f (w.words_are ∙ sym (ap (λ (x : TreeWords). x.output) same)) w.few

pub whole_exact : (h : Trees → Type 0) (r : ErrorKind → Type 0) (c : Bool) (words : TreeWords) (returned : Result TreeWords Error) (res : Result ℕ Error) → returned ≡ Ok words
    → MeasuresValue h r c returned → Fitted c words.output res → (kind : ErrorKind) → WordsError h r c kind → IsErrAnd res (λ e. e.kind ≡ kind)
whole_exact h r c words returned res was m f kind (inl errors) = absurd (ok_not_err returned words (λ e. e.kind ≡ kind) was (m.exact kind errors))
whole_exact h r c words returned res was m f kind (inr words_error) =
    let same : words ≡ tree_words c words_error.0 = same_words returned words (tree_words c words_error.0) was (m.found words_error.0 words_error.1) in
    fitted_error c words.output (total_words (output c words_error.0)) kind res f (sym (ap (λ (x : TreeWords). x.output) same)) words_error.2 words_error.3

-- the words of a part
pub part_returned : (h : Trees → Type 0) (r : ErrorKind → Type 0) (c : Bool) (words : TreeWords) (res : Result TreeWords Error) → AreMeasured h c words → FittedPart words res
    → MatchResult res (λ p. HasPart h c p) (λ error. WordsError h r false error.kind)
part_returned h r c words (Ok p) t f =
    let is : p ≡ tree_words c t.0 = f.0 ∙ t.3 in
    record {
      trees = t.0;
      tree_is = t.1;
      rooms = t.2;
      untrimmed_same = ap (λ (w : TreeWords). w.untrimmed) is;
      output_is = ap (λ (w : TreeWords). w.output) is;
      few = omega (arith, f.1, ap (λ (w : TreeWords). w.untrimmed) f.0);
    }
part_returned h r c words (Err error) t f =
    let total : words.untrimmed ≡ total_words t.0 = ap (λ (w : TreeWords). w.untrimmed) t.3 in
    inr (t.0, t.1, omega (arith, f.0, total), f.1 ∙ ap (too_large false) total)

part_fits : (words p : TreeWords) (res : Result TreeWords Error) → FittedPart words res → p ≡ words → p.untrimmed < 2 ^ 29 → res ≡ Ok p
part_fits words p (Ok q) f is few = ap (λ (x : TreeWords). Ok x) (f.0 ∙ sym is)
part_fits words p (Err e) f is few = absurd (omega (arith, f.0, ap (λ (w : TreeWords). w.untrimmed) is, few))

pub part_found : (h : Trees → Type 0) (r : ErrorKind → Type 0) (c : Bool) (words : TreeWords) (returned : Result TreeWords Error) (res : Result TreeWords Error) → returned ≡ Ok words
    → MeasuresValue h r c returned → FittedPart words res → (p : TreeWords) → HasPart h c p → res ≡ Ok p
part_found h r c words returned res was m f p w =
    let same : words ≡ tree_words c w.trees = same_words returned words (tree_words c w.trees) was (m.found w.trees w.tree_is) in
    part_fits words p res f (same_tree_words p (tree_words c w.trees) w.untrimmed_same w.output_is ∙ sym same) w.few

part_words_error : (words : TreeWords) (total : ℕ) (kind : ErrorKind) (res : Result TreeWords Error) → FittedPart words res → total ≡ words.untrimmed → 2 ^ 29 ≤ total → kind ≡ too_large false total
    → IsErrAnd res (λ e. e.kind ≡ kind)
part_words_error words total kind (Ok p) f is many k = absurd (omega (arith, f.1, is, many))
part_words_error words total kind (Err e) f is many k = f.1 ∙ ap (too_large false) (sym is) ∙ sym k

pub part_exact : (h : Trees → Type 0) (r : ErrorKind → Type 0) (c : Bool) (words : TreeWords) (returned : Result TreeWords Error) (res : Result TreeWords Error) → returned ≡ Ok words
    → MeasuresValue h r c returned → FittedPart words res → (kind : ErrorKind) → WordsError h r false kind → IsErrAnd res (λ e. e.kind ≡ kind)
part_exact h r c words returned res was m f kind (inl errors) = absurd (ok_not_err returned words (λ e. e.kind ≡ kind) was (m.exact kind errors))
part_exact h r c words returned res was m f kind (inr words_error) =
    let same : words ≡ tree_words c words_error.0 = same_words returned words (tree_words c words_error.0) was (m.found words_error.0 words_error.1) in
    part_words_error words (total_words words_error.0) kind res f (sym (ap (λ (x : TreeWords). x.untrimmed) same)) words_error.2 words_error.3
