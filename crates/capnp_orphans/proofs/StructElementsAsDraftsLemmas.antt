-- The words of a list of structs, each as a draft.
use Rattle.std.proofs.Common.{◌≡◌, ℕ, zero, suc, ◌+◌, ◌-◌, ◌*◌, ◌<◌, List, length, take, drop, slice_index_or, refl, sym, ◌∙◌, ap, arith, drop-drop}
use Rattle.std.proofs.lemmas.List.{take-take, drop-take}
use Rattle.capnp_orphans.specs.declared.draft.StructDraft.{StructDraft}
use Rattle.capnp_orphans.specs.Holds.{draft_of}
use Rattle.capnp_orphans.specs.Sized.{drafts_in}

pub length-drafts_in : (d p n : ℕ) (words : List ℕ) → length (drafts_in d p n words) ≡ n
length-drafts_in d p zero words = refl
length-drafts_in d p (suc n) words = ap (λ (k : ℕ). suc k) (length-drafts_in d p n (drop (d + p) words))

-- the struct that begins at a word
abbrev pub draft_at : (d p : ℕ) → List ℕ → ℕ → StructDraft (Unit {0}) d p
draft_at d p words at = draft_of (take d (drop at words)) (take p (drop d (drop at words)))

first_draft : (d p : ℕ) (words : List ℕ) → draft_at d p words 0 ≡ draft_of (take d words) (take p (drop d words))
first_draft d p words = refl

-- it is the struct at its index
pub draft_is : (d p n : ℕ) (words : List ℕ) (i : ℕ) (x : StructDraft (Unit {0}) d p) → i < n → slice_index_or (drafts_in d p n words) i x ≡ draft_at d p words (i * (d + p))
draft_is d p zero words i x within = absurd (omega (arith, within))
draft_is d p (suc n) words zero x within =
    let none : 0 ≡ 0 * (d + p) = omega arith in
    sym (first_draft d p words) ∙ ap (λ (k : ℕ). draft_at d p words k) none
draft_is d p (suc n) words (suc i) x within =
    let onward : (d + p) + i * (d + p) ≡ suc i * (d + p) = omega arith in
    draft_is d p n (drop (d + p) words) i x (omega (arith, within))
    ∙ ap (λ (l : List ℕ). draft_of (take d l) (take p (drop d l))) (drop-drop (i * (d + p)) (d + p) words ∙ ap (λ (k : ℕ). drop k words) onward)

-- the two parts of a struct
pub draft_words : (d p at : ℕ) (words : List ℕ) → take d (take (at + (d + p) - at) (drop at words)) ≡ take d (drop at words)
draft_words d p at words = take-take d (at + (d + p) - at) (drop at words) (omega arith)

pub draft_orphans : (d p at : ℕ) (words : List ℕ) → drop d (take (at + (d + p) - at) (drop at words)) ≡ take p (drop d (drop at words))
draft_orphans d p at words =
    let size : at + (d + p) - at ≡ d + p = omega arith in
    ap (λ (k : ℕ). drop d (take k (drop at words))) size ∙ drop-take d p (drop at words)
