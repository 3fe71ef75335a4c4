-- Where a walk that tests for the canonical form ends early, it stops with the error of any walk, or no trees are
-- there as the canonical form has them.
use Rattle.std.proofs.Common.{◌≡◌, ℕ, ◌+◌, ◌-◌, ◌^◌, ◌<◌, ◌≤◌, List, [], ◌∷◌, length, Option, Some, slice_get, slice_index_or, refl, sym, ◌∙◌, ap, subst, arith}
use Rattle.std.specs.Prelude.{All}
use Rattle.capnp_frame.specs.declared.error.ErrorKind.{ErrorKind}
use Rattle.capnp_layout.specs.Prelude.{pointer_kind, Trees, none, tree, count, object_size, total_words, trim_form, trim_children, Shape, At, nowhere, at, less, TreesAt, WalkError, at_pointer as error_at, over_limit as error_over, inside as error_inside, later as error_later, pointer, slots, HasRoom, placed, Trimmed}
use Rattle.capnp_wire.specs.Prelude.{Padded, IsInPreorder, IsFarAt, IsLaidOut, MeetsObject, Passes, fails_with, not_canonical, Ends, far, at_pointer, over_limit, elsewhere, inside, later}
use Rattle.capnp_layout.specs.declared.place.Place.{Place}
use Rattle.capnp_layout.proofs.objects.UniqueObjectLemmas.{one_object, one_tree}
use Rattle.capnp_layout.proofs.layouts.LayoutSizeLemmas.{Before, slots_before}
use Rattle.capnp_wire.proofs.layouts.LayoutPointerPlacesObjectLemmas.{preorder_object}
use Rattle.capnp_layout.proofs.trees.TraversalLimitCountLemmas.{count_at}
use Rattle.capnp_wire.proofs.forms.PreorderFirstTreeAndOthersLemmas.{preorder_step}
use Rattle.capnp_layout.proofs.trees.ReadTreeSizesAndWordsBoundedLemmas.{object_room, one_segment}
use Rattle.capnp_wire.proofs.forms.SectionTrimmedByLastWordLemmas.{or_there}
use Rattle.capnp_wire.proofs.forms.ObjectPassesWhereTrimmedLemmas.{word_at_place, IsPointerOfLayout, laid_is_placed, laid_room, truncated_is_trimmed}
use Rattle.capnp_layout.proofs.trees.TreeReadBackLemmas.{pointer_local}

-- errors stop every walk
trees_passed : (segment : List ℕ) (places : List Place) (nesting traversed next after : ℕ) (p : Passes segment places nesting traversed next after) → TreesAt (segment ∷ []) places nesting traversed (total_words p.trees)
trees_passed segment places nesting traversed next after p = record { trees = p.trees; are_at = p.are_at; shallow = p.shallow; words_are = refl }

pub ends_error : (segment : List ℕ) (places : List Place) (nesting next : ℕ) (limit : Option ℕ) (kind : ErrorKind) → Ends segment places nesting limit next (fails_with kind)
    → WalkError (segment ∷ []) places nesting limit kind
ends_error segment places nesting next limit kind (at_pointer n f) = error_at f
ends_error segment places nesting next limit kind (over_limit n o d p) = error_over o d p
ends_error segment places nesting next limit kind (inside {shape = s} m l e) =
    error_inside m.object m.deep m.within (ends_error segment s.children (nesting - 1) (next + object_size s.form (length s.children)) (less limit s.traversed) kind e)
ends_error segment places nesting next limit kind (later {place = place} {others = others} {traversed = traversed} {after = after} p w e) =
    error_later (trees_passed segment (place ∷ []) nesting traversed next after p) w (ends_error segment others nesting after (less limit traversed) kind e)

far_is_not_local : (segment : List ℕ) (place : Place) (tag : ℕ) → IsFarAt segment place → slice_get segment place.word ≡ Some tag → pointer_kind tag < 2 → ⊥
far_is_not_local segment place tag f there is_local =
    let here : slice_index_or segment place.word 0 ≡ f.0 = word_at_place segment place.segment place.word f.0 f.1 in
    let too : slice_index_or segment place.word 0 ≡ tag = or_there segment place.word tag there in
    let same : f.0 ≡ tag = sym here ∙ too in
    let k : pointer_kind tag ≡ 2 = ap pointer_kind (sym same) ∙ f.2 in
    omega arith

-- places of the first segment, before a word
abbrev pub AllBefore : ℕ → List Place → Type 0
AllBefore next [] = Unit {0}
AllBefore next (place ∷ others) = (place.segment ≡ 0) × (place.word < next) × AllBefore next others

before_placed : (base n : ℕ) (slots : List ℕ) → Before n slots → AllBefore (base + n) (placed 0 base slots)
before_placed base n [] before = tt
before_placed base n (slot ∷ slots) before = (refl, omega (arith, before.0), before_placed base n slots before.1)

pub before_later : (next after : ℕ) (places : List Place) → next ≤ after → AllBefore next places → AllBefore after places
before_later next after [] more before = tt
before_later next after (place ∷ others) more before = (before.0, omega (arith, before.1), before_later next after others more before.2)

pub in_first : (P : Place → Type 0) (place : Place) → place.segment ≡ 0 → P place → P (record { segment = 0; word = place.word })
in_first P place zero_there p = subst (λ (k : ℕ). P (record { segment = k; word = place.word })) zero_there p

from_first : (P : Place → Type 0) (place : Place) → place.segment ≡ 0 → P (record { segment = 0; word = place.word }) → P place
from_first P place zero_there p = subst (λ (k : ℕ). P (record { segment = k; word = place.word })) (sym zero_there) p

-- an object is as the canonical form has it where its pointer and its padding are, and its tree is trimmed
preorder_lays : (segment : List ℕ) (word nesting next inside : ℕ) (limit : Option ℕ) (shape : Shape) (children : Trees) → All (λ w. w < 2 ^ 64) segment
    → MeetsObject segment (record { segment = 0; word = word }) nesting limit shape
    → At (segment ∷ []) shape.children children inside → IsPointerOfLayout segment word next shape.form (count children) → Padded segment next shape.form
    → (trim_form shape.form children ≡ shape.form) × (trim_children shape.form children ≡ children)
    → IsLaidOut segment (record { segment = 0; word = word }) next shape
preorder_lays segment word nesting next amount limit shape children all meets are_at there padded trims =
    let many : length shape.children ≡ count children = sym (count_at (segment ∷ []) shape.children children amount are_at) in
    let room : HasRoom shape.form (count children) =
    subst (λ (n : ℕ). HasRoom shape.form n) many (object_room (segment ∷ []) (record { segment = 0; word = word }) shape (one_segment segment all) meets.object) in
    (laid_is_placed segment word nesting next limit shape meets).1
    (subst (λ (n : ℕ). IsPointerOfLayout segment word next shape.form n) (sym many) there, padded, (truncated_is_trimmed segment shape.form shape.children children amount are_at room).1 trims)

pub children_before : (segment : List ℕ) (word nesting next : ℕ) (limit : Option ℕ) (shape : Shape) → All (λ w. w < 2 ^ 64) segment → word < next → next ≤ length segment
    → MeetsObject segment (record { segment = 0; word = word }) nesting limit shape
    → IsLaidOut segment (record { segment = 0; word = word }) next shape → AllBefore (next + object_size shape.form (length shape.children)) shape.children
children_before segment word nesting next limit shape all before within meets l =
    let t = (laid_is_placed segment word nesting next limit shape meets).0 l in
    let room : HasRoom shape.form (length shape.children) = object_room (segment ∷ []) (record { segment = 0; word = word }) shape (one_segment segment all) meets.object in
    let exact = preorder_object segment word next shape.form shape.children shape.traversed before within room t.0.0 t.0.1 t.1 meets.object in
    subst (λ (l : List Place). AllBefore (next + object_size shape.form (length shape.children)) l) (sym exact.children_is)
    (before_placed next (object_size shape.form (length shape.children)) (slots shape.form (length shape.children)) (slots_before shape.form (length shape.children) room))

-- where a walk ends without an error, no trees are as the canonical form has them
pub ends_not : (segment : List ℕ) (places : List Place) (nesting next : ℕ) (limit : Option ℕ) (trees : Trees) (traversed : ℕ) → All (λ w. w < 2 ^ 64) segment
    → Ends segment places nesting limit next not_canonical → At (segment ∷ []) places trees traversed → AllBefore next places → next ≤ length segment → IsInPreorder segment places next trees → Trimmed trees → ⊥
ends_not segment places nesting next limit trees traversed all (far {place = place} f) (at {shape = s} {children = h} o inner tail) before within in_preorder trimmed =
    far_is_not_local segment place (pointer s.form (count h) (next - (place.word + 1))) f in_preorder.0 (pointer_local s.form (count h) (next - (place.word + 1)))
ends_not segment places nesting next limit trees traversed all (elsewhere {place = place} {shape = shape} meets not_laid) (at {shape = s} {children = h} {inside = i} o inner tail) before within in_preorder trimmed =
    let same : s ≡ shape = one_object (segment ∷ []) place s shape o meets.object in
    let are_at : At (segment ∷ []) shape.children h i = subst (λ (x : Shape). At (segment ∷ []) x.children h i) same inner in
    let there : IsPointerOfLayout segment place.word next shape.form (count h) = subst (λ (x : Shape). IsPointerOfLayout segment place.word next x.form (count h)) same (in_preorder.0, in_preorder.1) in
    let padded : Padded segment next shape.form = subst (λ (x : Shape). Padded segment next x.form) same in_preorder.2 in
    let trims : (trim_form shape.form h ≡ shape.form) × (trim_children shape.form h ≡ h) =
    subst (λ (x : Shape). (trim_form x.form h ≡ x.form) × (trim_children x.form h ≡ h)) same (trimmed.0.0, trimmed.0.1) in
    let laid = preorder_lays segment place.word nesting next i limit shape h all (in_first (λ (x : Place). MeetsObject segment x nesting limit shape) place before.0 meets) are_at there padded trims in
    not_laid (from_first (λ (x : Place). IsLaidOut segment x next shape) place before.0 laid)
ends_not segment places nesting next limit trees traversed all (inside {place = place} {others = others} {shape = shape} meets laid e)
    (at {shape = s} {children = h} {rest = r} {inside = i} o inner tail) before within in_preorder trimmed =
    let same : s ≡ shape = one_object (segment ∷ []) place s shape o meets.object in
    let are_at : At (segment ∷ []) shape.children h i = subst (λ (x : Shape). At (segment ∷ []) x.children h i) same inner in
    let many : count h ≡ length shape.children = count_at (segment ∷ []) shape.children h i are_at in
    let meets_first = in_first (λ (x : Place). MeetsObject segment x nesting limit shape) place before.0 meets in
    let laid_first = in_first (λ (x : Place). IsLaidOut segment x next shape) place before.0 laid in
    let preorder_first : IsInPreorder segment (record { segment = 0; word = place.word } ∷ others) next (tree shape.form h r) =
    in_first (λ (x : Place). IsInPreorder segment (x ∷ others) next (tree shape.form h r)) place before.0 (subst (λ (x : Shape). IsInPreorder segment (place ∷ others) next (tree x.form h r)) same in_preorder) in
    let steps = (preorder_step segment place.word next shape.children others shape.form h r shape.traversed i all meets_first.object are_at before.1 within).0 preorder_first in
    let children_preorder : IsInPreorder segment shape.children (next + object_size shape.form (length shape.children)) h = subst (λ (n : ℕ). IsInPreorder segment shape.children (next + object_size shape.form n) h) many steps.3 in
    ends_not segment shape.children (nesting - 1) (next + object_size shape.form (length shape.children)) (less limit shape.traversed) h i all e are_at
    (children_before segment place.word nesting next limit shape all before.1 within meets_first laid_first)
    (laid_room segment place.word nesting next limit shape meets_first laid_first before.1 within) children_preorder trimmed.0.2
ends_not segment places nesting next limit trees traversed all (later {place = place} {others = others} {traversed = own} {after = after} p w e)
    (at {shape = s} {children = h} {rest = r} {inside = i} {following = n} o inner tail) before within in_preorder trimmed =
    let one : At (segment ∷ []) (place ∷ []) (tree s.form h none) (s.traversed + i + 0) = at o inner nowhere in
    let same = one_tree (segment ∷ []) (place ∷ []) p.trees (tree s.form h none) own (s.traversed + i + 0) p.are_at one in
    let words : total_words p.trees ≡ total_words (tree s.form h none) = ap total_words same.0 in
    let is : next + object_size s.form (count h) + total_words h ≡ after = omega (arith, p.after_is, words) in
    ends_not segment others nesting after (less limit own) r n all e tail (before_later next after others (omega arith) before.2) p.room
    (subst (λ (k : ℕ). IsInPreorder segment others k r) is in_preorder.4) trimmed.1
