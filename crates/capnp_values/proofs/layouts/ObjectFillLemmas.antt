-- Objects whose own words are put into a block, and whose pointers are filled in, are laid out there.
use Rattle.std.proofs.Common.{◌≡◌, ℕ, ◌+◌, ◌*◌, ◌≤◌, List, [], ◌∷◌, length, take, drop, sym, ◌∙◌, ap, arith, length-take, length-drop}
use Rattle.capnp_layout.specs.Prelude.{struct, pointers, structs, Trees, none, tree, count, total_words, run, element_runs, woven, body, struct_pointer, HasRoom, AllHaveRoom, put, put_data_sections, fill, moved, section_slots}
use Rattle.capnp_layout.proofs.layouts.LayoutSizeLemmas.{length-woven, elements_even}
use Rattle.capnp_layout.proofs.layouts.PutWordsCombinedLemmas.{put_both, length-put, put_none}
use Rattle.capnp_wire.proofs.layouts.DataWriteKeepsPointerSlotsLemmas.{moved_run, moved_elements, put_short, put_data_sections_woven}
use Rattle.capnp_wire.proofs.layouts.LayoutByFillingPointerSlotsLemmas.{fill_is}

-- a struct
pub struct_filled : (next : ℕ) (words : List ℕ) (children : Trees) (block : List ℕ) → HasRoom (struct words) (count children) → AllHaveRoom children
    → next + (length words + count children + total_words children) ≤ length block
    → fill (run (next + length words) (count children)) (next + (length words + count children)) children (put next words block) ≡ put next (body (tree (struct words) children none)) block
struct_filled next words children block room inner fits =
    let n : ℕ = count children in
    let olds : List ℕ = take (count children) (drop (next + length words) block) in
    let olds_long : length (take (count children) (drop (next + length words) block)) ≡ count children =
    omega (arith, length-take (count children) (drop (next + length words) block), length-drop (next + length words) block, fits) in
    ap (λ (l : List ℕ). fill l (next + (length words + n)) children (put next words block)) (sym (moved_run next (length words) n))
    ∙ ap (λ (l : List ℕ). fill (moved next (run (length words) n)) (next + (length words + n)) children l) (put_short next n words block (omega (arith, fits)))
    ∙ fill_is next (struct words) children olds block room inner olds_long (omega (arith, fits))

-- a list of pointers
pub list_filled : (next : ℕ) (children : Trees) (block : List ℕ) → HasRoom pointers (count children) → AllHaveRoom children → next + (count children + total_words children) ≤ length block
    → fill (run next (count children)) (next + count children) children block ≡ put next (body (tree pointers children none)) block
list_filled next children block room inner fits =
    let n : ℕ = count children in
    let start : next ≡ next + 0 = omega arith in
    let olds : List ℕ = take (count children) (drop (next + 0) block) in
    let olds_long : length (take (count children) (drop (next + 0) block)) ≡ count children = omega (arith, length-take (count children) (drop (next + 0) block), length-drop (next + 0) block, fits) in
    let short : block ≡ put next olds block = sym (put_none next block) ∙ put_short next n [] block (omega (arith, fits)) in
    ap (λ (k : ℕ). fill (run k n) (next + n) children block) start
    ∙ ap (λ (l : List ℕ). fill l (next + n) children block) (sym (moved_run next 0 n))
    ∙ ap (λ (l : List ℕ). fill (moved next (run 0 n)) (next + n) children l) short
    ∙ fill_is next pointers children olds block room inner olds_long (omega (arith, fits))

-- a list of structs
pub structs_filled : (next d p : ℕ) (elements : List (List ℕ)) (children : Trees) (block : List ℕ) → HasRoom (structs d p elements) (count children) → AllHaveRoom children
    → next + (1 + length elements * (d + p) + total_words children) ≤ length block
    → fill (section_slots (next + 1) d p (length elements)) (next + (1 + length elements * (d + p))) children (put_data_sections (next + 1) p elements (put next (struct_pointer (length elements) d p ∷ []) block))
    ≡ put next (body (tree (structs d p elements) children none)) block
structs_filled next d p elements children block room inner fits =
    let size : ℕ = length elements * (d + p) in
    let tag : ℕ = struct_pointer (length elements) d p in
    let wide = elements_even d elements room.5 in
    let tagged_long : length (put next (struct_pointer (length elements) d p ∷ []) block) ≡ length block = length-put next (struct_pointer (length elements) d p ∷ []) block (omega (arith, fits)) in
    let w = put_data_sections_woven (next + 1) d p elements (put next (struct_pointer (length elements) d p ∷ []) block) wide (omega (arith, tagged_long, fits)) in
    let woven_long : length (woven p elements w.0) ≡ length elements * (d + p) = length-woven d p elements w.0 wide w.1 in
    let joined : put_data_sections (next + 1) p elements (put next (tag ∷ []) block) ≡ put next (tag ∷ woven p elements w.0) block =
    w.2 ∙ put_both next (tag ∷ []) (woven p elements w.0) block (omega (arith, woven_long, fits)) in
    ap (λ (l : List ℕ). fill l (next + (1 + size)) children (put_data_sections (next + 1) p elements (put next (tag ∷ []) block))) (sym (moved_elements next 1 d p elements))
    ∙ ap (λ (l : List ℕ). fill (moved next (element_runs 1 d p elements)) (next + (1 + size)) children l) joined
    ∙ fill_is next (structs d p elements) children w.0 block room inner (w.1 ∙ sym room.4) (omega (arith, fits))
