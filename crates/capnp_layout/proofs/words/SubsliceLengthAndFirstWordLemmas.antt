-- The words from a start on: how many they are, and which is the first of them.
use Rattle.std.proofs.Common.{◌≡◌, ℕ, zero, suc, ◌+◌, ◌<◌, ◌≤◌, List, [], ◌∷◌, length, drop, slice_index_or, refl, ◌∙◌, ap}
use Rattle.std.proofs.Common.{arith, length-take, length-drop}
use Rattle.capnp_layout.specs.Prelude.{words_from}

pub length-subslice : (words : List ℕ) (s n : ℕ) → s + n ≤ length words → length (words_from words s n) ≡ n
length-subslice words s n room = omega (arith, length-take n (drop s words), length-drop s words)

pub drop_first : (words : List ℕ) (s : ℕ) → s < length words → drop s words ≡ slice_index_or words s 0 ∷ drop (s + 1) words
drop_first [] s within = absurd (omega arith)
drop_first (w ∷ words) zero within = refl
drop_first (w ∷ words) (suc s) within =
    let next : suc (s + 1) ≡ suc s + 1 = omega arith in
    drop_first words s (omega arith) ∙ ap (λ (k : ℕ). slice_index_or words s 0 ∷ drop k (w ∷ words)) next
