-- An object is laid out once its pointers are filled into their slots one by one, each with the words that it
-- points to.
use Rattle.std.proofs.lemmas.List.{take-append-drop, append-nil}
use Rattle.std.proofs.lemmas.List.Elements.{All-head, All-tail}
use Rattle.std.proofs.Common.{◌≡◌, ℕ, suc, ◌+◌, ◌-◌, ◌*◌, ◌≤◌, List, [], ◌∷◌, ◌++◌, length, take, drop, refl, sym, ◌∙◌, ap, subst, arith, append_assoc, length-append, length-take, length-drop}
use Rattle.capnp_layout.specs.Prelude.{Form, null, struct, numbers, pointers, structs, Trees, none, tree, count, object_size, total_words, pointer, run, element_runs, slots, pointers_to, woven, own, body, struct_pointer, HasRoom, AllHaveRoom, put, fill, moved}
use Rattle.capnp_layout.proofs.pointers.LayoutSlotPointersAndPlacesLemmas.{AllOf}
use Rattle.capnp_layout.proofs.layouts.LayoutSizeLemmas.{Before, before_more, length-run, length-slots, slots_before, length-own, length-body, links_of, length-links, elements_even}
use Rattle.capnp_layout.proofs.layouts.PutWordsCombinedLemmas.{put_parts, put_none, put_both, put_inside, length-put}
use Rattle.capnp_wire.proofs.layouts.BlockWriteOrderLemmas.{put_apart}

-- pointer words put into their slots
abbrev pub set_all : List ℕ → List ℕ → List ℕ → List ℕ
set_all [] links block = block
set_all (slot ∷ slots) [] block = block
set_all (slot ∷ slots) (link ∷ links) block = set_all slots links (put slot (link ∷ []) block)

pub pointers_moved : (base : ℕ) (slots : List ℕ) (next : ℕ) (trees : Trees) → pointers_to (moved base slots) (base + next) trees ≡ pointers_to slots next trees
pointers_moved base slots next none = refl
pointers_moved base [] next (tree form children rest) = refl
pointers_moved base (slot ∷ slots) next (tree form children rest) =
    let offset : base + next - (base + slot + 1) ≡ next - (slot + 1) = omega arith in
    let onward : base + next + object_size form (count children) + total_words children ≡ base + (next + object_size form (count children) + total_words children) = omega arith in
    rw (offset, onward, pointers_moved base slots (next + object_size form (count children) + total_words children) rest) refl

-- what lies after the slots can be put before them
set_later : (slots links : List ℕ) (next : ℕ) (words block : List ℕ) → Before next slots → next + length words ≤ length block
    → set_all slots links (put next words block) ≡ put next words (set_all slots links block)
set_later [] links next words block before room = refl
set_later (slot ∷ slots) [] next words block before room = refl
set_later (slot ∷ slots) (link ∷ links) next words block before room =
    let one : put slot (link ∷ []) (put next words block) ≡ put next words (put slot (link ∷ []) block) = sym (put_apart slot next (link ∷ []) words block (omega (arith, before.0)) room) in
    let size = length-put slot (link ∷ []) block (omega (arith, before.0)) in
    ap (λ (l : List ℕ). set_all slots links l) one ∙ set_later slots links next words (put slot (link ∷ []) block) before.1 (omega arith)

pub fill_splits : (slots : List ℕ) (next : ℕ) (trees : Trees) (block : List ℕ) → Before next slots → AllHaveRoom trees → length slots ≡ count trees → next + total_words trees ≤ length block
    → fill slots next trees block ≡ set_all slots (pointers_to slots next trees) (put next (body trees) block)
fill_splits [] next none block before room long fits = sym (put_none next block)
fill_splits (slot ∷ slots) next none block before room long fits = absurd (omega arith)
fill_splits [] next (tree form children rest) block before room long fits = absurd (omega arith)
fill_splits (slot ∷ slots) next (tree form children rest) block before room long fits =
    let n : ℕ = object_size form (count children) + total_words children in
    let first : List ℕ = body (tree form children none) in
    let link : ℕ = pointer form (count children) (next - (slot + 1)) in
    let after : ℕ = next + object_size form (count children) + total_words children in
    let size : length (body (tree form children none)) ≡ object_size form (count children) + total_words children = omega (arith, length-body (tree form children none) (room.0, room.1, tt)) in
    let following : length (body rest) ≡ total_words rest = length-body rest room.2 in
    let after_is : next + length (body (tree form children none)) ≡ next + object_size form (count children) + total_words children = omega arith in
    let put_first = length-put next (body (tree form children none)) block (omega arith) in
    let put_link = length-put slot (link ∷ []) (put next (body (tree form children none)) block) (omega (arith, before.0)) in
    let others = fill_splits slots after rest (put slot (link ∷ []) (put next first block)) (before_more next after slots (omega arith) before.1) room.2 (omega arith) (omega arith) in
    let apart : put after (body rest) (put slot (link ∷ []) (put next first block)) ≡ put slot (link ∷ []) (put after (body rest) (put next first block)) =
    put_apart slot after (link ∷ []) (body rest) (put next first block) (omega (arith, before.0)) (omega arith) in
    let joined : put after (body rest) (put next first block) ≡ put next (first ++ body rest) block =
    ap (λ (k : ℕ). put k (body rest) (put next first block)) (sym after_is) ∙ put_both next first (body rest) block (omega arith) in
    let whole : first ++ body rest ≡ body (tree form children rest) = ap (λ (l : List ℕ). l ++ body rest) (append-nil (own form (links_of form children) ++ body children)) in
    others ∙ ap (λ (l : List ℕ). set_all slots (pointers_to slots after rest) l) (apart ∙ ap (λ (l : List ℕ). put slot (link ∷ []) l) (joined ∙ ap (λ (l : List ℕ). put next l block) whole))

-- slots within the words that were put
set_inside : (base : ℕ) (slots links words block : List ℕ) → Before (length words) slots → base + length words ≤ length block
    → set_all (moved base slots) links (put base words block) ≡ put base (set_all slots links words) block
set_inside base [] links words block before room = refl
set_inside base (slot ∷ slots) [] words block before room = refl
set_inside base (slot ∷ slots) (link ∷ links) words block before room =
    let size : length (put slot (link ∷ []) words) ≡ length words = length-put slot (link ∷ []) words (omega (arith, before.0)) in
    ap (λ (l : List ℕ). set_all (moved base slots) links l) (put_inside base slot (link ∷ []) words block (omega (arith, before.0)) room)
    ∙ set_inside base slots links (put slot (link ∷ []) words) block (subst (λ (n : ℕ). Before n slots) (sym size) before.1) (omega arith)

set_append : (s t xs ys block : List ℕ) → length s ≡ length xs → set_all (s ++ t) (xs ++ ys) block ≡ set_all t ys (set_all s xs block)
set_append [] t [] ys block long = refl
set_append [] t (x ∷ xs) ys block long = absurd (omega arith)
set_append (slot ∷ s) t [] ys block long = absurd (omega arith)
set_append (slot ∷ s) t (x ∷ xs) ys block long = set_append s t xs ys (put slot (x ∷ []) block) (omega arith)

-- a run of slots
set_run : (start : ℕ) (front olds links rest : List ℕ) → length front ≡ start → length olds ≡ length links
    → set_all (run start (length links)) links (front ++ (olds ++ rest)) ≡ front ++ (links ++ rest)
set_run start front [] [] rest here long = refl
set_run start front (o ∷ olds) [] rest here long = absurd (omega arith)
set_run start front [] (x ∷ links) rest here long = absurd (omega arith)
set_run start front (o ∷ olds) (x ∷ links) rest here long =
    let one : put start (x ∷ []) (front ++ ((o ∷ []) ++ (olds ++ rest))) ≡ front ++ ((x ∷ []) ++ (olds ++ rest)) = put_parts front (o ∷ []) (olds ++ rest) (x ∷ []) start here refl in
    let seam : (zs : List ℕ) → front ++ ((x ∷ []) ++ zs) ≡ (front ++ (x ∷ [])) ++ zs = λ zs. sym (append_assoc front (x ∷ []) zs) in
    ap (λ (l : List ℕ). set_all (run (start + 1) (length links)) links l) (one ∙ seam (olds ++ rest))
    ∙ set_run (start + 1) (front ++ (x ∷ [])) olds links rest (omega (arith, length-append front (x ∷ []))) (omega arith) ∙ sym (seam (links ++ rest))

-- the slots of elements
set_elements : (start d p : ℕ) (elements : List (List ℕ)) (front olds links rest : List ℕ) → length front ≡ start → AllOf d elements → length olds ≡ length elements * p → length links ≡ length elements * p
    → set_all (element_runs start d p elements) links (front ++ (woven p elements olds ++ rest)) ≡ front ++ (woven p elements links ++ rest)
set_elements start d p [] front olds links rest here even long there = refl
set_elements start d p (element ∷ elements) front olds links rest here even long there =
    let wide : length element ≡ d = All-head (λ r. length r ≡ d) element elements even in
    let split : suc (length elements) * p ≡ p + length elements * p = omega arith in
    let some_links : length (take p links) ≡ p = omega (arith, length-take p links) in
    let some_olds : length (take p olds) ≡ p = omega (arith, length-take p olds) in
    let seam : (zs ws : List ℕ) → front ++ (((element ++ zs) ++ ws) ++ rest) ≡ (front ++ element) ++ (zs ++ (ws ++ rest)) =
    λ zs ws. ap (λ (l : List ℕ). front ++ l) (append_assoc (element ++ zs) ws rest ∙ append_assoc element zs (ws ++ rest)) ∙ sym (append_assoc front element (zs ++ (ws ++ rest))) in
    let links_are : take p links ++ drop p links ≡ links = take-append-drop p links in
    let first : set_all (run (start + d) p) (take p links) ((front ++ element) ++ (take p olds ++ (woven p elements (drop p olds) ++ rest))) ≡ (front ++ element) ++ (take p links ++ (woven p elements
    (drop p olds) ++ rest)) =
    ap (λ (n : ℕ). set_all (run (start + d) n) (take p links) ((front ++ element) ++ (take p olds ++ (woven p elements (drop p olds) ++ rest)))) (sym some_links)
    ∙ set_run (start + d) (front ++ element) (take p olds) (take p links) (woven p elements (drop p olds) ++ rest) (omega (arith, length-append front element)) (some_olds ∙ sym some_links) in
    let join : (zs : List ℕ) → (front ++ element) ++ (take p links ++ zs) ≡ ((front ++ element) ++ take p links) ++ zs = λ zs. sym (append_assoc (front ++ element) (take p links) zs) in
    let others = set_elements (start + d + p) d p elements ((front ++ element) ++ take p links) (drop p olds) (drop p links) rest
    (omega (arith, length-append (front ++ element) (take p links), length-append front element)) (All-tail (λ r. length r ≡ d) element elements even) (omega (arith, length-drop p olds))
    (omega (arith, length-drop p links)) in
    ap (λ (l : List ℕ). set_all (run (start + d) p ++ element_runs (start + d + p) d p elements) l (front ++ (((element ++ take p olds) ++ woven p elements (drop p olds)) ++ rest))) (sym links_are)
    ∙ set_append (run (start + d) p) (element_runs (start + d + p) d p elements) (take p links) (drop p links) (front ++ (((element ++ take p olds) ++ woven p elements (drop p olds)) ++ rest)) (length-run
    (start + d) p ∙ sym some_links)
    ∙ ap (λ (l : List ℕ). set_all (element_runs (start + d + p) d p elements) (drop p links) (set_all (run (start + d) p) (take p links) l)) (seam (take p olds) (woven p elements (drop p olds)))
    ∙ ap (λ (l : List ℕ). set_all (element_runs (start + d + p) d p elements) (drop p links) l) (first ∙ join (woven p elements (drop p olds) ++ rest))
    ∙ others ∙ sym (join (woven p elements (drop p links) ++ rest)) ∙ sym (seam (take p links) (woven p elements (drop p links)))

-- an object's own words with other pointers
own_set : (form : Form) (olds links more : List ℕ) → HasRoom form (length links) → length olds ≡ length links
    → set_all (slots form (length links)) links (own form olds ++ more) ≡ own form links ++ more
own_set null olds [] more room long = refl
own_set null olds (x ∷ links) more room long = absurd (omega (arith, room))
own_set (struct words) olds links more room long =
    ap (λ (l : List ℕ). set_all (run (length words) (length links)) links l) (append_assoc words olds more) ∙ set_run (length words) words olds links more refl long
    ∙ sym (append_assoc words links more)
own_set (numbers code values) olds [] more room long = refl
own_set (numbers code values) olds (x ∷ links) more room long = absurd (omega (arith, room.2))
own_set pointers olds links more room long = set_run 0 [] olds links more refl long
own_set (structs d p elements) olds links more room long =
    set_elements 1 d p elements (struct_pointer (length elements) d p ∷ []) olds links more refl (elements_even d elements room.5) (long ∙ room.4) room.4

before_moved : (base next : ℕ) (slots : List ℕ) → Before next slots → Before (base + next) (moved base slots)
before_moved base next [] before = tt
before_moved base next (slot ∷ slots) before = (omega (arith, before.0), before_moved base next slots before.1)

length-moved : (base : ℕ) (slots : List ℕ) → length (moved base slots) ≡ length slots
length-moved base [] = refl
length-moved base (slot ∷ slots) = ap (λ (n : ℕ). suc n) (length-moved base slots)

-- an object whose pointers are filled in, whatever was there before
pub fill_is : (base : ℕ) (form : Form) (children : Trees) (olds block : List ℕ) → HasRoom form (count children) → AllHaveRoom children → length olds ≡ count children
    → base + (object_size form (count children) + total_words children) ≤ length block
    → fill (moved base (slots form (count children))) (base + object_size form (count children)) children (put base (own form olds) block) ≡ put base (body (tree form children none)) block
fill_is base form children olds block room inner long fits =
    let links : List ℕ = links_of form children in
    let many : length (links_of form children) ≡ count children = length-links form children room in
    let size : length (own form olds) ≡ object_size form (count children) =
    length-own form olds (subst (λ (n : ℕ). HasRoom form n) (sym long) room) ∙ ap (λ (n : ℕ). object_size form n) long in
    let inner_size : length (body children) ≡ total_words children = length-body children inner in
    let put_own = length-put base (own form olds) block (omega arith) in
    let absolute : Before (base + object_size form (count children)) (moved base (slots form (count children))) = before_moved base (object_size form (count children)) (slots form (count children))
    (slots_before form (count children) room) in
    let splits = fill_splits (moved base (slots form (count children))) (base + object_size form (count children)) children (put base (own form olds) block) absolute inner
    (length-moved base (slots form (count children)) ∙ length-slots form (count children) room) (omega arith) in
    let same_links = pointers_moved base (slots form (count children)) (object_size form (count children)) children in
    let joined : put (base + object_size form (count children)) (body children) (put base (own form olds) block) ≡ put base (own form olds ++ body children) block =
    ap (λ (n : ℕ). put (base + n) (body children) (put base (own form olds) block)) (sym size) ∙ put_both base (own form olds) (body children) block (omega arith) in
    let longer : length (own form olds ++ body children) ≡ object_size form (count children) + total_words children = omega (arith, length-append (own form olds) (body children)) in
    let inside = set_inside base (slots form (count children)) links (own form olds ++ body children) block
    (before_more (object_size form (count children)) (length (own form olds ++ body children)) (slots form (count children)) (omega arith) (slots_before form (count children) room)) (omega arith) in
    let set : set_all (slots form (count children)) links (own form olds ++ body children) ≡ own form links ++ body children =
    subst (λ (n : ℕ). set_all (slots form n) links (own form olds ++ body children) ≡ own form links ++ body children) many
    (own_set form olds links (body children) (subst (λ (n : ℕ). HasRoom form n) (sym many) room) (long ∙ sym many)) in
    splits ∙ ap (λ (l : List ℕ). set_all (moved base (slots form (count children))) l (put (base + object_size form (count children)) (body children) (put base (own form olds) block))) same_links
    ∙ ap (λ (l : List ℕ). set_all (moved base (slots form (count children))) links l) joined ∙ inside
    ∙ ap (λ (l : List ℕ). put base l block) (set ∙ sym (append-nil (own form links ++ body children)))
