-- Words put into a block take the place of as many of its words. Two puts, one right after the other or one within
-- the other, are one put.
use Rattle.std.proofs.lemmas.List.{nil_from_length, take-append-drop}
use Rattle.std.proofs.Math.Seq.{take-append_seam, drop-append_seam}
use Rattle.std.proofs.Common.{◌≡◌, ℕ, ◌+◌, ◌≤◌, List, [], ◌++◌, length, take, drop, refl, sym, ◌∙◌, ap, arith, append_assoc, length-append, length-take, length-drop}
use Rattle.capnp_layout.specs.Prelude.{put}

-- a block in three parts, with another middle part
pub put_parts : (front middle rest words : List ℕ) (at : ℕ) → length front ≡ at → length words ≡ length middle
    → put at words (front ++ (middle ++ rest)) ≡ front ++ (words ++ rest)
put_parts front middle rest words at here long =
    let one : take at (front ++ (middle ++ rest)) ≡ front = rw (← here) (take-append_seam front (middle ++ rest)) in
    let two : drop (at + length words) (front ++ (middle ++ rest)) ≡ rest =
    ap (λ (l : List ℕ). drop (at + length words) l) (sym (append_assoc front middle rest))
    ∙ ap (λ (n : ℕ). drop n ((front ++ middle) ++ rest)) (omega (arith, length-append front middle))
    ∙ drop-append_seam (front ++ middle) rest in
    rw (one, two) refl

-- where the words that are put have room, the block is in three parts
pub record BlockParts (at n : ℕ) (block : List ℕ) : Type 0 where
  pub front : List ℕ
  pub middle : List ℕ
  pub rest : List ℕ
  pub whole : block ≡ front ++ (middle ++ rest)
  pub begins : length front ≡ at
  pub long : length middle ≡ n

pub parts : (at n : ℕ) (block : List ℕ) → at + n ≤ length block → BlockParts at n block
parts at n block room = record {
  front = take at block;
  middle = take n (drop at block);
  rest = drop n (drop at block);
  whole = sym (ap (λ (l : List ℕ). take at block ++ l) (take-append-drop n (drop at block)) ∙ take-append-drop at block);
  begins = omega (arith, length-take at block);
  long = omega (arith, length-take n (drop at block), length-drop at block);
}

pub length-put : (at : ℕ) (words block : List ℕ) → at + length words ≤ length block → length (put at words block) ≡ length block
length-put at words block room =
    omega (
      arith,
      length-append (take at block) (words ++ drop (at + length words) block),
      length-append words (drop (at + length words) block),
      length-take at block,
      length-drop
          (at + length words) block,
    )

pub put_none : (at : ℕ) (block : List ℕ) → put at [] block ≡ block
put_none at block =
    let none : at + 0 ≡ at = omega arith in
    ap (λ (n : ℕ). take at block ++ ([] ++ drop n block)) none ∙ take-append-drop at block

-- words after others
pub put_both : (at : ℕ) (xs ys block : List ℕ) → at + length xs + length ys ≤ length block → put (at + length xs) ys (put at xs block) ≡ put at (xs ++ ys) block
put_both at xs ys block room =
    let p = parts at (length xs) block (omega arith) in
    let q = parts 0 (length ys) p.rest (omega (arith, ap length p.whole, length-append p.front (p.middle ++ p.rest), length-append p.middle p.rest, p.begins, p.long)) in
    let no_front : q.front ≡ [] = nil_from_length q.front q.begins in
    let rest_is : p.rest ≡ q.middle ++ q.rest = q.whole ∙ ap (λ (l : List ℕ). l ++ (q.middle ++ q.rest)) no_front in
    let block_is : block ≡ p.front ++ (p.middle ++ (q.middle ++ q.rest)) = p.whole ∙ ap (λ (l : List ℕ). p.front ++ (p.middle ++ l)) rest_is in
    let first : put at xs block ≡ p.front ++ (xs ++ (q.middle ++ q.rest)) =
    ap (λ (l : List ℕ). put at xs l) block_is ∙ put_parts p.front p.middle (q.middle ++ q.rest) xs at p.begins (sym p.long) in
    let second : put (at + length xs) ys (p.front ++ (xs ++ (q.middle ++ q.rest))) ≡ (p.front ++ xs) ++ (ys ++ q.rest) =
    ap (λ (l : List ℕ). put (at + length xs) ys l) (sym (append_assoc p.front xs (q.middle ++ q.rest)))
    ∙ put_parts (p.front ++ xs) q.middle q.rest ys (at + length xs) (omega (arith, length-append p.front xs, p.begins)) (sym q.long) in
    let both : put at (xs ++ ys) block ≡ p.front ++ ((xs ++ ys) ++ q.rest) =
    ap (λ (l : List ℕ). put at (xs ++ ys) l) (block_is ∙ ap (λ (l : List ℕ). p.front ++ l) (sym (append_assoc p.middle q.middle q.rest)))
    ∙ put_parts p.front (p.middle ++ q.middle) q.rest (xs ++ ys) at p.begins (omega (arith, length-append xs ys, length-append p.middle q.middle, p.long, q.long)) in
    ap (λ (l : List ℕ). put (at + length xs) ys l) first ∙ second ∙ append_assoc p.front xs (ys ++ q.rest) ∙ ap (λ (l : List ℕ). p.front ++ l) (sym (append_assoc xs ys q.rest)) ∙ sym both

-- words put into the words that were put
pub put_inside : (at slot : ℕ) (xs words block : List ℕ) → slot + length xs ≤ length words → at + length words ≤ length block
    → put (at + slot) xs (put at words block) ≡ put at (put slot xs words) block
put_inside at slot xs words block inner room =
    let p = parts at (length words) block room in
    let w = parts slot (length xs) words inner in
    let one : put at words block ≡ p.front ++ (words ++ p.rest) = ap (λ (l : List ℕ). put at words l) p.whole ∙ put_parts p.front p.middle p.rest words at p.begins (sym p.long) in
    let spread : p.front ++ (words ++ p.rest) ≡ (p.front ++ w.front) ++ (w.middle ++ (w.rest ++ p.rest)) =
    ap (λ (l : List ℕ). p.front ++ (l ++ p.rest)) w.whole
    ∙ ap (λ (l : List ℕ). p.front ++ l) (append_assoc w.front (w.middle ++ w.rest) p.rest ∙ ap (λ (l : List ℕ). w.front ++ l) (append_assoc w.middle w.rest p.rest))
    ∙ sym (append_assoc p.front w.front (w.middle ++ (w.rest ++ p.rest))) in
    let two : put (at + slot) xs (put at words block) ≡ (p.front ++ w.front) ++ (xs ++ (w.rest ++ p.rest)) =
    ap (λ (l : List ℕ). put (at + slot) xs l) (one ∙ spread)
    ∙ put_parts (p.front ++ w.front) w.middle (w.rest ++ p.rest) xs (at + slot) (omega (arith, length-append p.front w.front, p.begins, w.begins)) (sym w.long) in
    let inside : put slot xs words ≡ w.front ++ (xs ++ w.rest) = ap (λ (l : List ℕ). put slot xs l) w.whole ∙ put_parts w.front w.middle w.rest xs slot w.begins (sym w.long) in
    let size : length (put slot xs words) ≡ length words = length-put slot xs words inner in
    let three : put at (put slot xs words) block ≡ p.front ++ ((w.front ++ (xs ++ w.rest)) ++ p.rest) =
    ap (λ (l : List ℕ). put at (put slot xs words) l) p.whole ∙ put_parts p.front p.middle p.rest (put slot xs words) at p.begins (size ∙ sym p.long)
    ∙ ap (λ (l : List ℕ). p.front ++ (l ++ p.rest)) inside in
    two ∙ append_assoc p.front w.front (xs ++ (w.rest ++ p.rest))
    ∙ ap (λ (l : List ℕ). p.front ++ l) (ap (λ (l : List ℕ). w.front ++ l) (sym (append_assoc xs w.rest p.rest)) ∙ sym (append_assoc w.front (xs ++ w.rest) p.rest)) ∙ sym three
