-- The data sections of consecutive elements are put into a block one after the other: the first, and then the
-- others.
use Rattle.std.proofs.Common.{◌≡◌, ℕ, zero, suc, ◌+◌, ◌-◌, ◌*◌, ◌<◌, ◌≤◌, List, [], length, drop, refl, ◌∙◌, arith, length-take, length-drop}
use Rattle.capnp_layout.specs.Prelude.{words_from, elements_from, put, put_data_sections}
use Rattle.capnp_layout.proofs.layouts.PutWordsCombinedLemmas.{put_none}

pub fewer_elements : (start step n there : ℕ) → 0 < n → start + n * step ≤ there → start + step + (n - 1) * step ≤ there
fewer_elements start step zero there some room = absurd (omega arith)
fewer_elements start step (suc n) there some room =
    let split : suc n * step ≡ step + n * step = omega arith in
    let less : suc n - 1 ≡ n = omega arith in
    rw less (omega arith)

pub put_data_sections_next : (words : List ℕ) (from step d p n to : ℕ) (block now : List ℕ) → 0 < n → d ≤ step → from + n * step ≤ length words → now ≡ put to (words_from words from d) block
    → put_data_sections (to + (d + p)) p (elements_from words (from + step) d (step - d) (n - 1)) now ≡ put_data_sections to p (elements_from words from d (step - d) n) block
put_data_sections_next words from step d p zero to block now some inside room e = absurd (omega arith)
put_data_sections_next words from step d p (suc n) to block now some inside room e =
    let split : suc n * step ≡ step + n * step = omega arith in
    let less : suc n - 1 ≡ n = omega arith in
    let on : from + step ≡ from + d + (step - d) = omega arith in
    let long : length (words_from words from d) ≡ d = omega (arith, length-take d (drop from words), length-drop from words) in
    let further : to + (d + p) ≡ to + length (words_from words from d) + p = omega arith in
    rw (less, on, further, e) refl

-- elements without data
pub put_no_data : (words : List ℕ) (start step p n to : ℕ) (block : List ℕ) → put_data_sections to p (elements_from words start 0 step n) block ≡ block
put_no_data words start step p zero to block = refl
put_no_data words start step p (suc n) to block = put_no_data words (start + 0 + step) step p n (to + 0 + p) (put to [] block) ∙ put_none to block
