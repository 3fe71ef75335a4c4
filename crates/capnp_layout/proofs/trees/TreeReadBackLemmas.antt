-- A tree that is laid out anywhere in a message is read back at its pointer: a local one, or a far one to a
-- landing pad of one word.
use Rattle.std.proofs.Common.{◌≡◌, ℕ, zero, suc, ◌+◌, ◌-◌, ◌^◌, ◌<◌, ◌≤◌, ◌==◌, if◌then◌else◌, false, true, List, [], ◌∷◌, ◌++◌}
use Rattle.std.proofs.Common.{length, take, drop, Some, slice_get, refl, sym, ◌∙◌, ap, subst, arith, length-take}
use Rattle.std.proofs.lemmas.List.{take-append-drop}
use Rattle.capnp_layout.specs.Prelude.{pointer_kind, words_from, landing_pad_segment, landing_pad_position, has_wide_landing_pad, Form, null, struct, numbers, pointers, structs, Trees, none, tree, count, object_size, total_words, PointsTo, is_null, is_object, local, far, double_far, IsFar, landing_pad, word_at, Shape, At, nowhere, at, pointer, struct_pointer, minus_one, body, far_pointer, Laid, AllHaveRoom, slots}
use Rattle.capnp_layout.specs.Tree.{is_null as is_null_form}
use Rattle.capnp_layout.specs.declared.place.Place.{Place}
use Rattle.capnp_layout.proofs.words.WordRunPartsInSegmentLemmas.{Holds}
use Rattle.capnp_layout.proofs.layouts.LayoutReadBackLemmas.{trees_are_at, local_reaches, few_reach}

-- words at their place
pub holds_there : (words : List ℕ) (start n : ℕ) (part : List ℕ) → start + n ≤ length words → words_from words start n ≡ part → Holds words start part
holds_there words start n part room is = record {
  front = take start words;
  rest = drop n (drop start words);
  parts = sym (ap (λ (l : List ℕ). take start words ++ (l ++ drop n (drop start words))) (sym is)
      ∙ ap (λ (l : List ℕ). take start words ++ l) (take-append-drop n (drop start words)) ∙ take-append-drop start words);
  begins = omega (arith, room, length-take start words);
}

-- the body is this many words after the pointer
pub local_tree : (m : List (List ℕ)) (k word offset : ℕ) (words : List ℕ) (form : Form) (children : Trees) → slice_get m k ≡ Some words → AllHaveRoom (tree form children none)
    → total_words (tree form children none) < 2 ^ 29 → offset < 2 ^ 29 → slice_get words word ≡ Some (pointer form (count children) offset) → Laid words (word + 1 + offset) (tree form children none)
    → (traversed : ℕ) × At m (record { segment = k; word = word } ∷ []) (tree form children none) traversed
local_tree m k word offset words form children there room small reach is_at laid =
    let begin : word + (offset + 1) ≡ word + 1 + offset = omega arith in
    let same : offset + 1 - (0 + 1) ≡ offset = omega arith in
    let first : word + 0 ≡ word = omega arith in
    let whole : Holds words (word + (offset + 1)) (body (tree form children none)) =
    subst (λ (n : ℕ). Holds words n (body (tree form children none))) (sym begin) (holds_there words (word + 1 + offset) (total_words (tree form children none)) (body
    (tree form children none)) laid.within laid.words_are) in
    let link : slice_get words (word + 0) ≡ Some (pointer form (count children) (offset + 1 - (0 + 1))) =
    ap (λ (n : ℕ). slice_get words n) first ∙ is_at ∙ ap (λ (n : ℕ). Some (pointer form (count children) n)) (sym same) in
    let inner = few_reach (slots form (count children)) (object_size form (count children)) children (omega (arith, small)) in
    let there_is = trees_are_at m k words there word (0 ∷ []) (offset + 1) (tree form children none) (local_reaches form (count children) (offset + 1 - (0 + 1)) (omega (arith, reach)), inner, tt) room refl
    (omega arith, tt) (link, refl) whole in
    subst (λ (n : ℕ). (traversed : ℕ) × At m (record { segment = k; word = n } ∷ []) (tree form children none) traversed) first there_is

-- an object that is reached through a landing pad of one word
pub far_object : (m : List (List ℕ)) (place : Place) (word tag : ℕ) (shape : Shape) → word_at m place ≡ Some word → IsFar word 0 → word_at m (landing_pad word) ≡ Some tag → 0 < tag → pointer_kind tag < 2
    → PointsTo m (landing_pad word) shape → (traversed : ℕ) × PointsTo m place (record { form = shape.form; children = shape.children; traversed = traversed })
far_object m place word tag shape here is_far following some is_local (is_null e) = let zero_tag : tag ≡ 0 = cc in absurd (omega (arith, zero_tag, some))
far_object m place word tag shape here is_far following some is_local (is_object {shape = s} (local there positive low) content begins is_at) =
    (1 + s.traversed, is_object (far here is_far there low) content begins is_at)
far_object m place word tag shape here is_far following some is_local (is_object {shape = s} (far {word = w} there far_there inner low) content begins is_at) =
    let same : tag ≡ w = cc in absurd (omega (arith, same, is_local, far_there.far))
far_object m place word tag shape here is_far following some is_local (is_object {shape = s} (double_far {word = w} there far_there inner wide last words low) content begins is_at) =
    let same : tag ≡ w = cc in absurd (omega (arith, same, is_local, far_there.far))

pub far_at : (m : List (List ℕ)) (place : Place) (word tag : ℕ) (form : Form) (children : Trees) (traversed : ℕ) → word_at m place ≡ Some word → IsFar word 0 → word_at m (landing_pad word) ≡ Some tag
    → 0 < tag → pointer_kind tag < 2
    → At m (landing_pad word ∷ []) (tree form children none) traversed → (traversed : ℕ) × At m (place ∷ []) (tree form children none) traversed
far_at m place word tag form children traversed here is_far following some is_local (at {shape = s} {inside = i} object inner nowhere) =
    let there = far_object m place word tag s here is_far following some is_local object in
    (there.0 + i + 0, at there.1 inner nowhere)

-- pointers to objects
pub pointer_local : (form : Form) (n offset : ℕ) → pointer_kind (pointer form n offset) < 2
pointer_local null n offset = omega arith
pointer_local (struct words) n offset = omega arith
pointer_local (numbers c values) n offset = omega arith
pointer_local pointers n offset = omega arith
pointer_local (structs d p elements) n offset = omega arith

struct_some : (offset d n : ℕ) → 0 < struct_pointer (if d + n == 0 then minus_one else offset) d n
struct_some offset zero zero = omega arith
struct_some offset (suc d) n = omega arith
struct_some offset zero (suc n) = omega arith

pub pointer_some : (form : Form) (n offset : ℕ) → is_null_form form ≡ false → 0 < pointer form n offset
pointer_some null n offset some = absurd (let no : true ≡ false = some in cc)
pointer_some (struct words) n offset some = struct_some offset (length words) n
pointer_some (numbers c values) n offset some = omega arith
pointer_some pointers n offset some = omega arith
pointer_some (structs d p elements) n offset some = omega arith

far_fields : (k q : ℕ) → q < 2 ^ 29 → (landing_pad_segment (far_pointer k q) ≡ k) × (landing_pad_position (far_pointer k q) ≡ q) × (pointer_kind (far_pointer k q) ≡ 2) × (has_wide_landing_pad (far_pointer k q) ≡ 0)
far_fields k q low = (omega (arith, low), omega (arith, low), omega arith, omega arith)

far_landing_pad : (k q : ℕ) → q < 2 ^ 29 → (let place : Place = record { segment = k; word = q } in landing_pad (far_pointer k q) ≡ place)
far_landing_pad k q low = let f = far_fields k q low in cc

-- the tree of a body that follows a landing pad, to which a far pointer points
pub far_tree : (m : List (List ℕ)) (place : Place) (k q : ℕ) (words : List ℕ) (form : Form) (children : Trees) → slice_get m k ≡ Some words → AllHaveRoom (tree form children none)
    → total_words (tree form children none) < 2 ^ 29 → is_null_form form ≡ false → q < 2 ^ 29 → word_at m place ≡ Some (far_pointer k q)
    → slice_get words q ≡ Some (pointer form (count children) 0) → Laid words (q + 1) (tree form children none)
    → (traversed : ℕ) × At m (place ∷ []) (tree form children none) traversed
far_tree m place k q words form children there room small some low here is_at laid =
    let begin : q + 1 + 0 ≡ q + 1 = omega arith in
    let is_landing_pad = far_landing_pad k q low in
    let f = far_fields k q low in
    let there_is = local_tree m k q 0 words form children there room small (omega arith) is_at (subst (λ (n : ℕ). Laid words n (tree form children none)) (sym begin) laid) in
    let at_landing_pad = subst (λ (p : Place). At m (p ∷ []) (tree form children none) there_is.0) (sym is_landing_pad) there_is.1 in
    let tag_there : word_at m (landing_pad (far_pointer k q)) ≡ Some (pointer form (count children) 0) =
    ap (λ (p : Place). word_at m p) is_landing_pad ∙ (rw there is_at) in
    far_at m place (far_pointer k q) (pointer form (count children) 0) form children there_is.0 here (record { far = f.2; wide = f.3 }) tag_there (pointer_some form (count children) 0 some)
    (pointer_local form (count children) 0) at_landing_pad

pub no_trees : (trees : Trees) → count trees ≡ 0 → trees ≡ none
no_trees none e = refl
no_trees (tree form children rest) e = absurd (omega arith)

pub one_tree_alone : (trees : Trees) → count trees ≡ 1 → (form : Form) × (children : Trees) × (trees ≡ tree form children none)
one_tree_alone none one = absurd (omega (arith, one))
one_tree_alone (tree form children none) one = (form, children, refl)
one_tree_alone (tree form children (tree f h rest)) one = absurd (omega (arith, one))

-- what has words is an object
pub some_form : (form : Form) (children : Trees) → AllHaveRoom (tree form children none) → 0 < total_words (tree form children none) → is_null_form form ≡ false
some_form null children room some = let empty : total_words children ≡ 0 = ap total_words (no_trees children room.0) in absurd (omega (arith, empty, some))
some_form (struct words) children room some = refl
some_form (numbers c values) children room some = refl
some_form pointers children room some = refl
some_form (structs d p elements) children room some = refl
