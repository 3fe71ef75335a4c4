-- Words that are put into a block at places apart may be put in either order.
use Rattle.std.proofs.Common.{◌≡◌, ℕ, ◌+◌, ◌-◌, ◌≤◌, List, ◌++◌, length, refl, sym, ◌∙◌, ap, arith, append_assoc, length-append}
use Rattle.capnp_layout.specs.Prelude.{put}
use Rattle.capnp_layout.proofs.layouts.PutWordsCombinedLemmas.{parts, put_parts}

-- words before others are put in either order
pub put_apart : (at later : ℕ) (xs ys block : List ℕ) → at + length xs ≤ later → later + length ys ≤ length block
    → put later ys (put at xs block) ≡ put at xs (put later ys block)
put_apart at later xs ys block before room =
    let p = parts at (length xs) block (omega arith) in
    let there : later - (at + length xs) + length ys ≤ length p.rest = omega (arith, ap length p.whole, length-append p.front (p.middle ++ p.rest), length-append p.middle p.rest, p.begins, p.long) in
    let q = parts (later - (at + length xs)) (length ys) p.rest there in
    let block_is : block ≡ p.front ++ (p.middle ++ (q.front ++ (q.middle ++ q.rest))) = p.whole ∙ ap (λ (l : List ℕ). p.front ++ (p.middle ++ l)) q.whole in
    let seam : (zs ws : List ℕ) → p.front ++ (zs ++ (q.front ++ ws)) ≡ ((p.front ++ zs) ++ q.front) ++ ws =
    λ zs ws. sym (append_assoc (p.front ++ zs) q.front ws ∙ append_assoc p.front zs (q.front ++ ws)) in
    let later_is : (zs : List ℕ) → length zs ≡ length xs → length ((p.front ++ zs) ++ q.front) ≡ later =
    λ zs long. omega (arith, length-append (p.front ++ zs) q.front, length-append p.front zs, p.begins, q.begins) in
    let one : put at xs block ≡ p.front ++ (xs ++ (q.front ++ (q.middle ++ q.rest))) =
    ap (λ (l : List ℕ). put at xs l) block_is ∙ put_parts p.front p.middle (q.front ++ (q.middle ++ q.rest)) xs at p.begins (sym p.long) in
    let two : put later ys (put at xs block) ≡ ((p.front ++ xs) ++ q.front) ++ (ys ++ q.rest) =
    ap (λ (l : List ℕ). put later ys l) (one ∙ seam xs (q.middle ++ q.rest)) ∙ put_parts ((p.front ++ xs) ++ q.front) q.middle q.rest ys later (later_is xs refl) (sym q.long) in
    let three : put later ys block ≡ ((p.front ++ p.middle) ++ q.front) ++ (ys ++ q.rest) =
    ap (λ (l : List ℕ). put later ys l) (block_is ∙ seam p.middle (q.middle ++ q.rest)) ∙ put_parts ((p.front ++ p.middle) ++ q.front) q.middle q.rest ys later (later_is p.middle p.long)
    (sym q.long) in
    let four : put at xs (put later ys block) ≡ p.front ++ (xs ++ (q.front ++ (ys ++ q.rest))) =
    ap (λ (l : List ℕ). put at xs l) (three ∙ sym (seam p.middle (ys ++ q.rest))) ∙ put_parts p.front p.middle (q.front ++ (ys ++ q.rest)) xs at p.begins (sym p.long) in
    two ∙ sym (seam xs (ys ++ q.rest)) ∙ sym four
