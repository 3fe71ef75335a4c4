-- Data sections that are put into a block, element by element, leave what is in the pointer slots between them.
use Rattle.std.proofs.lemmas.List.{take-append-drop, drop-drop as drop_drop_std}
use Rattle.std.proofs.Math.Seq.{take-append_seam as take_seam, drop-append_seam as drop_seam}
use Rattle.std.proofs.lemmas.List.Elements.{All-head, All-tail}
use Rattle.capnp_layout.proofs.pointers.LayoutSlotPointersAndPlacesLemmas.{AllOf}
use Rattle.capnp_layout.proofs.layouts.LayoutSizeLemmas.{length-woven}
use Rattle.std.proofs.Common.{◌≡◌, ℕ, zero, suc, ◌+◌, ◌*◌, ◌≤◌, List, [], ◌∷◌, ◌++◌, length, take, drop, refl, sym, ◌∙◌, ap}
use Rattle.std.proofs.Common.{arith, append_assoc, length-append, length-take, length-drop}
use Rattle.capnp_layout.specs.Prelude.{run, element_runs, woven, put, put_data_sections, moved, section_slots}
use Rattle.capnp_layout.proofs.layouts.PutWordsCombinedLemmas.{put_both, length-put, put_none}

-- runs of slots
pub moved_run : (base start n : ℕ) → moved base (run start n) ≡ run (base + start) n
moved_run base start zero = refl
moved_run base start (suc n) = ap (λ (l : List ℕ). (base + start) ∷ l) (moved_run base (start + 1) n ∙ ap (λ (k : ℕ). run k n) (omega arith))

moved_append : (base : ℕ) (s t : List ℕ) → moved base (s ++ t) ≡ moved base s ++ moved base t
moved_append base [] t = refl
moved_append base (x ∷ s) t = ap (λ (l : List ℕ). (base + x) ∷ l) (moved_append base s t)

pub moved_elements : (base start d p : ℕ) (elements : List (List ℕ)) → moved base (element_runs start d p elements) ≡ section_slots (base + start) d p (length elements)
moved_elements base start d p [] = refl
moved_elements base start d p (element ∷ elements) =
    let one : base + (start + d) ≡ base + start + d = omega arith in
    let two : base + (start + d + p) ≡ base + start + d + p = omega arith in
    moved_append base (run (start + d) p) (element_runs (start + d + p) d p elements)
    ∙ ap (λ (l : List ℕ). l ++ moved base (element_runs (start + d + p) d p elements)) (moved_run base (start + d) p ∙ ap (λ (k : ℕ). run k p) one)
    ∙ ap (λ (l : List ℕ). run (base + start + d) p ++ l) (moved_elements base (start + d + p) d p elements ∙ ap (λ (k : ℕ). section_slots k d p (length elements)) two)

drop_drop : (n k : ℕ) (xs : List ℕ) → drop n (drop k xs) ≡ drop (k + n) xs
drop_drop n k xs = drop_drop_std n k xs ∙ ap (λ (j : ℕ). drop j xs) (omega arith)

-- words that are put before words that stay
pub put_short : (slot n : ℕ) (xs block : List ℕ) → slot + length xs + n ≤ length block → put slot xs block ≡ put slot (xs ++ take n (drop (slot + length xs) block)) block
put_short slot n xs block room =
    let rest : List ℕ = drop (slot + length xs) block in
    let long : length (take n rest) ≡ n = omega (arith, length-take n rest, length-drop (slot + length xs) block) in
    let last : drop (slot + length (xs ++ take n rest)) block ≡ drop n rest =
    ap (λ (k : ℕ). drop k block) (omega (arith, length-append xs (take n rest))) ∙ sym (drop_drop n (slot + length xs) block) in
    ap (λ (l : List ℕ). take slot block ++ l)
    (ap (λ (l : List ℕ). xs ++ l) (sym (take-append-drop n rest)) ∙ sym (append_assoc xs (take n rest) (drop n rest)) ∙ ap (λ (l : List ℕ). (xs ++ take n rest) ++ l) (sym last))

-- elements that are put, and what stays between them
pub put_data_sections_woven : (slot d p : ℕ) (elements : List (List ℕ)) (block : List ℕ) → AllOf d elements → slot + length elements * (d + p) ≤ length block
    → (olds : List ℕ) × (length olds ≡ length elements * p) × (put_data_sections slot p elements block ≡ put slot (woven p elements olds) block)
put_data_sections_woven slot d p [] block wide room = ([], omega arith, sym (put_none slot block))
put_data_sections_woven slot d p (element ∷ elements) block wide room =
    let long : length element ≡ d = All-head (λ r. length r ≡ d) element elements wide in
    let split : suc (length elements) * (d + p) ≡ d + p + length elements * (d + p) = omega arith in
    let more : suc (length elements) * p ≡ p + length elements * p = omega arith in
    let put_first = length-put slot element block (omega arith) in
    let old : List ℕ = take p (drop (slot + length element) block) in
    let old_long : length (take p (drop (slot + length element) block)) ≡ p = omega (arith, length-take p (drop (slot + length element) block), length-drop (slot + length element) block) in
    let rest = put_data_sections_woven (slot + length element + p) d p elements (put slot element block) (All-tail (λ r. length r ≡ d) element elements wide) (omega arith) in
    let olds : List ℕ = old ++ rest.0 in
    let front : take p (old ++ rest.0) ≡ old = ap (λ (k : ℕ). take k (old ++ rest.0)) (sym old_long) ∙ take_seam old rest.0 in
    let back : drop p (old ++ rest.0) ≡ rest.0 = ap (λ (k : ℕ). drop k (old ++ rest.0)) (sym old_long) ∙ drop_seam old rest.0 in
    let first : put slot element block ≡ put slot (element ++ old) block = put_short slot p element block (omega arith) in
    let size : length (element ++ old) ≡ length element + p = omega (arith, length-append element old) in
    let here : slot + length element + p ≡ slot + length (element ++ old) = omega arith in
    let elements_long : length (woven p elements rest.0) ≡ length elements * (d + p) = length-woven d p elements rest.0 (All-tail (λ r. length r ≡ d) element elements wide) rest.1 in
    let joined : put (slot + length element + p) (woven p elements rest.0) (put slot element block) ≡ put slot ((element ++ old) ++ woven p elements rest.0) block =
    ap (λ (k : ℕ). put k (woven p elements rest.0) (put slot element block)) here ∙ ap (λ (l : List ℕ). put (slot + length (element ++ old)) (woven p elements rest.0) l) first
    ∙ put_both slot (element ++ old) (woven p elements rest.0) block (omega arith) in
    let is : (element ++ old) ++ woven p elements rest.0 ≡ woven p (element ∷ elements) (old ++ rest.0) = rw (front, back) refl in
    (old ++ rest.0, omega (arith, length-append old rest.0, rest.1), rest.2 ∙ joined ∙ ap (λ (l : List ℕ). put slot l block) is)
