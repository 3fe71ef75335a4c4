-- Where the first block of a message is placed: after the root's word in the first segment, or after its landing
-- pad in a second one if the first has no room.
use Rattle.std.proofs.Common.{◌≡◌, inl, inr, ℕ, ◌+◌, ◌/◌, ◌^◌, ◌<◌, ◌≤◌, min, List, [], ◌∷◌, length, ap, ◌∙◌, arith}
use Rattle.capnp_build.specs.Prelude.{Space, HasLarge, space_at, pairs, Built, size_in_words, HasRootAlone, HasNoRoom, IsPlaced, IsFirst, most_words}
use Rattle.capnp_build.proofs.states.SegmentSizesAfterChangeLemmas.{past_all}

one_word : (spaces : List Space) → HasRootAlone spaces → size_in_words spaces ≡ 1
one_word [] alone = absurd (omega (arith, alone.0))
one_word (s ∷ []) alone = omega (arith, alone.1)
one_word (s ∷ t ∷ spaces) alone = absurd (omega (arith, alone.0))

nothing_past : (spaces : List Space) (i : ℕ) → i ≡ length spaces → length (space_at spaces i).used ≡ 0
nothing_past spaces i e = ap (λ (k : ℕ). length (space_at spaces k).used) e ∙ ap (λ (l : List ℕ). length l) (past_all spaces)

-- a block that is placed after the root's word alone
pub first_put : {A : Type 0} (cleared new : Built A) (words : ℕ) → HasRootAlone cleared.spaces → IsPlaced cleared.spaces new words
    → (space_at new.spaces 0).size ≡ (space_at cleared.spaces 0).size → IsFirst new words
first_put cleared new words alone placed size =
    let most : most_words (space_at new.spaces 0) ≡ most_words (space_at cleared.spaces 0) = ap (λ (n : ℕ). min (n / 8) (2 ^ 29)) size in
    let one : size_in_words cleared.spaces ≡ 1 = one_word cleared.spaces alone in
    record {
      local = λ room.
          let within : words < most_words (space_at new.spaces 0) = room in
          let p = placed.local (omega (arith, within, most, alone.1, alone.2)) in (
            record {
              place = p.0.place;
              place_is = p.0.place_is;
              segment_is = p.0.segment_is;
              start_is = omega (arith, p.0.start_is, alone.1);
              words_are = p.0.words_are;
            },
            omega (arith, p.1, alone.0),
            omega (arith, p.2, one),
          );
      far = λ full.
          let past : most_words (space_at new.spaces 0) ≤ words = full in
          let p = placed.far (omega (arith, past, most, alone.1, alone.2)) in
          let second : p.0 ≡ 1 = omega (arith, p.1, p.4, alone.0) in
          let none = nothing_past cleared.spaces p.0 (omega (arith, second, alone.0)) in (
            record {
              place = p.2.place;
              place_is = p.2.place_is;
              segment_is = p.2.segment_is ∙ second;
              start_is = omega (arith, p.2.start_is, none);
              words_are = p.2.words_are;
            },
            omega (arith, p.5, second, alone.0),
            omega (arith, p.6, one),
          );
    }

-- where one segment alone is out, and has no room, none that is out is large enough
pub no_large : (spaces : List Space) (words : ℕ) → HasRootAlone spaces → HasNoRoom spaces words → words < 2 ^ 29 → HasLarge (words + 1) (pairs spaces []) → ⊥
no_large [] words alone full few large = absurd (omega (arith, alone.0))
no_large (s ∷ []) words alone full few large = elim large [
  | inl fits ↦ (let first = full.first in absurd (omega (arith, fits, first, alone.1, few)))
  | inr none ↦ none
]
no_large (s ∷ t ∷ spaces) words alone full few large = absurd (omega (arith, alone.0))
