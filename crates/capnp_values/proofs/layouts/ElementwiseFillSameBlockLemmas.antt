-- Elements that are put into a block one by one, each with its pointers, make the same block as all data sections
-- first and all pointers after them.
use Rattle.std.proofs.Common.{◌≡◌, ℕ, zero, suc, ◌+◌, ◌-◌, ◌*◌, ◌≤◌, List, [], ◌∷◌, ◌++◌, length, refl, sym, ◌∙◌, ap, arith}
use Rattle.std.proofs.lemmas.List.Elements.{All-head, All-tail}
use Rattle.capnp_layout.specs.Prelude.{Trees, none, tree, count, object_size, total_words, first, following, before, pointer, run, body, AllHaveRoom, put, put_data_sections, fill, section_slots}
use Rattle.capnp_layout.proofs.pointers.LayoutSlotPointersAndPlacesLemmas.{AllOf}
use Rattle.capnp_layout.proofs.trees.TreePartsSizeAndPropertiesLemmas.{count-first, count-following, total-before, before_chunks}
use Rattle.capnp_layout.proofs.trees.KeptTreesPlacedNoDeeperLemmas.{rooms_first, rooms_after}
use Rattle.capnp_layout.proofs.layouts.LayoutSizeLemmas.{Before, before_more, length-run, length-body}
use Rattle.capnp_wire.proofs.layouts.BlockWriteOrderLemmas.{put_apart}
use Rattle.capnp_layout.proofs.layouts.PutWordsCombinedLemmas.{length-put}
use Rattle.capnp_values.specs.StructLists.{fill_elements}

-- what is filled in keeps the block's length
pub length-fill : (slots : List ℕ) (next : ℕ) (trees : Trees) (block : List ℕ) → Before next slots → AllHaveRoom trees → next + total_words trees ≤ length block
    → length (fill slots next trees block) ≡ length block
length-fill slots next none block before rooms fits = refl
length-fill [] next (tree form children rest) block before rooms fits = refl
length-fill (slot ∷ slots) next (tree form children rest) block before rooms fits =
    let own : List ℕ = body (tree form children none) in
    let size : length (body (tree form children none)) ≡ object_size form (count children) + total_words children = omega (arith, length-body (tree form children none) (rooms.0, rooms.1, tt)) in
    let after : ℕ = next + object_size form (count children) + total_words children in
    let link : ℕ = pointer form (count children) (next - (slot + 1)) in
    let put_own = length-put next (body (tree form children none)) block (omega (arith, size, fits)) in
    let put_link = length-put slot (link ∷ []) (put next own block) (omega (arith, before.0, put_own, fits)) in
    length-fill slots after rest (put slot (link ∷ []) (put next own block)) (before_more next after slots (omega arith) before.1) rooms.2 (omega (arith, put_own, put_link, fits)) ∙ put_link ∙ put_own

-- words before the slots' object are put first or last
put_fill : (slots : List ℕ) (next : ℕ) (trees : Trees) (at : ℕ) (xs block : List ℕ) → Before at slots → AllHaveRoom trees → at + length xs ≤ next → next + total_words trees ≤ length block
    → put at xs (fill slots next trees block) ≡ fill slots next trees (put at xs block)
put_fill slots next none at xs block before rooms le fits = refl
put_fill [] next (tree form children rest) at xs block before rooms le fits = refl
put_fill (slot ∷ slots) next (tree form children rest) at xs block before rooms le fits =
    let own : List ℕ = body (tree form children none) in
    let size : length (body (tree form children none)) ≡ object_size form (count children) + total_words children = omega (arith, length-body (tree form children none) (rooms.0, rooms.1, tt)) in
    let after : ℕ = next + object_size form (count children) + total_words children in
    let link : ℕ = pointer form (count children) (next - (slot + 1)) in
    let put_own = length-put next (body (tree form children none)) block (omega (arith, size, fits)) in
    let put_link = length-put slot (link ∷ []) (put next own block) (omega (arith, before.0, put_own, le, fits)) in
    let others = put_fill slots after rest at xs (put slot (link ∷ []) (put next own block)) before.1 rooms.2 (omega (arith, le)) (omega (arith, put_own, put_link, fits)) in
    let one : put at xs (put slot (link ∷ []) (put next own block)) ≡ put slot (link ∷ []) (put at xs (put next own block)) =
    put_apart slot at (link ∷ []) xs (put next own block) (omega (arith, before.0)) (omega (arith, put_own, le, fits)) in
    let two : put at xs (put next own block) ≡ put next own (put at xs block) = sym (put_apart at next xs own block le (omega (arith, size, fits))) in
    others ∙ ap (λ (l : List ℕ). fill slots after rest l) (one ∙ ap (λ (l : List ℕ). put slot (link ∷ []) l) two)

put_data_sections_fill : (d p at : ℕ) (elements : List (List ℕ)) (slots : List ℕ) (next : ℕ) (trees : Trees) (block : List ℕ) → AllOf d elements → Before at slots → AllHaveRoom trees
    → at + length elements * (d + p) ≤ next → next + total_words trees ≤ length block → put_data_sections at p elements (fill slots next trees block) ≡ fill slots next trees (put_data_sections at p elements block)
put_data_sections_fill d p at [] slots next trees block wide before rooms le fits = refl
put_data_sections_fill d p at (element ∷ elements) slots next trees block wide before rooms le fits =
    let long : length element ≡ d = All-head (λ r. length r ≡ d) element elements wide in
    let split : suc (length elements) * (d + p) ≡ d + p + length elements * (d + p) = omega arith in
    let put_one = length-put at element block (omega (arith, long, split, le, fits)) in
    ap (λ (l : List ℕ). put_data_sections (at + length element + p) p elements l) (put_fill slots next trees at element block before rooms (omega (arith, long, split, le)) fits)
    ∙ put_data_sections_fill d p (at + length element + p) elements slots next trees (put at element block) (All-tail (λ r. length r ≡ d) element elements wide) (before_more at (at + length element + p) slots (omega arith) before) rooms
    (omega (arith, long, split, le)) (omega (arith, put_one, fits))

-- trees before others
fill_append : (s t : List ℕ) (next : ℕ) (a b : Trees) (block : List ℕ) → length s ≡ count a → fill (s ++ t) next (before a b) block ≡ fill t (next + total_words a) b (fill s next a block)
fill_append [] t next none b block long = let here : next ≡ next + 0 = omega arith in ap (λ (n : ℕ). fill t n b block) here
fill_append (x ∷ s) t next none b block long = absurd (omega (arith, long))
fill_append [] t next (tree f h r) b block long = absurd (omega (arith, long))
fill_append (x ∷ s) t next (tree f h r) b block long =
    let after : ℕ = next + object_size f (count h) + total_words h in
    let now : List ℕ = put x (pointer f (count h) (next - (x + 1)) ∷ []) (put next (body (tree f h none)) block) in
    let onward : next + object_size f (count h) + total_words h + total_words r ≡ next + total_words (tree f h r) = omega arith in
    fill_append s t after r b now (omega (arith, long)) ∙ ap (λ (n : ℕ). fill t n b (fill s after r now)) onward

run_before : (start n next : ℕ) → start + n ≤ next → Before next (run start n)
run_before start zero next le = tt
run_before start (suc n) next le = (omega (arith, le), run_before (start + 1) n next (omega (arith, le)))

-- The data of all elements is put, and then all pointers are filled in.
pub elements_filled : (d p at : ℕ) (elements : List (List ℕ)) (next : ℕ) (children : Trees) (block : List ℕ) → AllOf d elements → count children ≡ length elements * p → AllHaveRoom children
    → at + length elements * (d + p) ≤ next → next + total_words children ≤ length block
    → fill_elements p at elements next children block ≡ fill (section_slots at d p (length elements)) next children (put_data_sections at p elements block)
elements_filled d p at [] next none block wide many rooms le fits = refl
elements_filled d p at [] next (tree form children rest) block wide many rooms le fits = absurd (omega (arith, many))
elements_filled d p at (element ∷ elements) next children block wide many rooms le fits =
    let a : Trees = first p children in
    let b : Trees = following p children in
    let long : length element ≡ d = All-head (λ r. length r ≡ d) element elements wide in
    let elements_wide = All-tail (λ r. length r ≡ d) element elements wide in
    let more : suc (length elements) * p ≡ p + length elements * p = omega arith in
    let split : suc (length elements) * (d + p) ≡ d + p + length elements * (d + p) = omega arith in
    let some : count (first p children) ≡ p = count-first p children (omega (arith, many, more)) in
    let left : count (following p children) ≡ length elements * p = omega (arith, count-following p children (omega (arith, many, more)), many, more) in
    let whole : before (first p children) (following p children) ≡ children = before_chunks p children in
    let total : total_words children ≡ total_words (first p children) + total_words (following p children) = sym (ap total_words whole) ∙ total-before a b in
    let slots : List ℕ = run (at + length element) p in
    let on : ℕ = at + length element + p in
    let onto : ℕ = next + total_words (first p children) in
    let now : List ℕ = put at element block in
    let put_one : length (put at element block) ≡ length block = length-put at element block (omega (arith, long, split, le, fits)) in
    let before_on : Before on slots = run_before (at + length element) p on (omega arith) in
    let inner = rooms_first p children rooms in
    let room : next + total_words (first p children) ≤ length (put at element block) = omega (arith, put_one, total, fits) in
    let filled_long = length-fill slots next a now (before_more on next slots (omega (arith, long, split, le)) before_on) inner room in
    let others = elements_filled d p on elements onto b (fill slots next a now) elements_wide left (rooms_after p children rooms) (omega (arith, long, split, le)) (omega (arith, filled_long, put_one, total, fits)) in
    let later = put_data_sections_fill d p on elements slots next a now elements_wide before_on inner (omega (arith, long, split, le)) room in
    let last : List ℕ = put_data_sections on p elements now in
    others ∙ ap (λ (l : List ℕ). fill (section_slots on d p (length elements)) onto b l) later
    ∙ sym (fill_append slots (section_slots on d p (length elements)) next a b last (length-run (at + length element) p ∙ sym some))
    ∙ ap (λ (t : Trees). fill (slots ++ section_slots on d p (length elements)) next t last) whole
    ∙ ap (λ (k : ℕ). fill (run (at + k) p ++ section_slots (at + k + p) d p (length elements)) next children last) long
