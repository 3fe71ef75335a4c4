-- An object whose pointer has the word of a layout is at the next free word, with its pointers and its own words
-- where the layout has them.
use Rattle.std.proofs.Common.{◌≡◌, ℕ, ◌+◌, ◌-◌, ◌*◌, ◌^◌, ◌<◌, ◌≤◌, List, [], ◌∷◌, length, Some, slice_get, refl, sym, ◌∙◌, ap, subst, arith}
use Rattle.std.proofs.lemmas.List.{nil_from_length}
use Rattle.capnp_layout.specs.Prelude.{pointer_kind, offset, struct_pointer, list_pointer, minus_one, pointer, HasRoom, Reaches, Form, null, struct, numbers, pointers, structs, Trees, tree, Shape, ShapeIsAt, PointsTo, is_null, is_object, At, at}
use Rattle.capnp_layout.specs.declared.place.Place.{Place}
use Rattle.capnp_wire.specs.Prelude.{Padded}
use Rattle.capnp_layout.proofs.words.WordRunPartsInSegmentLemmas.{Holds, holds_none}
use Rattle.capnp_layout.proofs.pointers.PointerWordFieldLemmas.{struct_fields, list_fields}
use Rattle.capnp_layout.proofs.objects.UniqueObjectLemmas.{null_lands_nowhere}
use Rattle.capnp_layout.proofs.layouts.LayoutReadBackLemmas.{if_positive}
use Rattle.capnp_wire.proofs.layouts.ObjectAtNextWordLaidOutLemmas.{Exactly, tag_exactly}
use Rattle.capnp_layout.proofs.pointers.LocalPointerTargetLemmas.{local_object}

-- the first of some trees at places, and the others
pub record Parts (m : List (List ℕ)) (place : Place) (others : List Place) (form : Form) (children rest : Trees) : Type 0 where
  pub places : List Place
  pub traversed : ℕ
  pub inside : ℕ
  pub following : ℕ
  pub object : PointsTo m place (record { form = form; children = places; traversed = traversed })
  pub inner : At m places children inside
  pub after : At m others rest following

pub at_parts : (m : List (List ℕ)) (place : Place) (others : List Place) (form : Form) (children rest : Trees) (traversed : ℕ) → At m (place ∷ others) (tree form children rest) traversed
    → Parts m place others form children rest
at_parts m place others form children rest traversed (at {shape = s} {inside = i} {following = b} object inner after) =
    record { places = s.children; traversed = s.traversed; inside = i; following = b; object = object; inner = inner; after = after }

null_object : (segment : List ℕ) (word : ℕ) (shape : Shape) → slice_get segment word ≡ Some 0 → PointsTo (segment ∷ []) (record { segment = 0; word = word }) shape → shape.children ≡ []
null_object segment word shape here (is_null e) = refl
null_object segment word shape here (is_object {landing = c} lands w begins is_at) = absurd (null_lands_nowhere (segment ∷ []) (record { segment = 0; word = word }) c here lands)

-- an object with a pointer whose offset points to the next free word
local_exactly : (segment : List ℕ) (word next tag : ℕ) (form : Form) (children : List Place) (traversed : ℕ) → word < next → next - (word + 1) < 2 ^ 29
    → slice_get segment word ≡ Some tag → 0 < tag → pointer_kind tag < 2 → offset tag ≡ next - (word + 1) → Padded segment next form
    → PointsTo (segment ∷ []) (record { segment = 0; word = word }) (record { form = form; children = children; traversed = traversed }) → Exactly segment next form children (length children)
local_exactly segment word next tag form children traversed before small there positive is_local offset_is padded object =
    let n = local_object segment word tag (record { form = form; children = children; traversed = traversed }) there positive is_local object in
    let at_next : n.start ≡ next = omega (arith, n.target) in
    let is_at : ShapeIsAt segment (record { segment = 0; word = next }) tag n.shape = subst (λ (x : ℕ). ShapeIsAt segment (record { segment = 0; word = x }) tag n.shape) at_next n.is_at in
    let exact : Exactly segment next n.shape.form n.shape.children (length children) =
    tag_exactly segment next tag n.shape (length children) is_at (ap (λ (l : List Place). length l) n.children_is) (subst (λ (f : Form). Padded segment next f) (sym n.form_is) padded) in
    subst (λ (f : Form). Exactly segment next f children (length children)) n.form_is (subst (λ (l : List Place). Exactly segment next n.shape.form l (length children)) n.children_is exact)

struct_exactly : (segment : List ℕ) (word next : ℕ) (words : List ℕ) (children : List Place) (traversed : ℕ) → word < next → 0 < length words + length children → HasRoom (struct words) (length children)
    → slice_get segment word ≡ Some (pointer (struct words) (length children) (next - (word + 1))) → next - (word + 1) < 2 ^ 29
    → PointsTo (segment ∷ []) (record { segment = 0; word = word }) (record { form = struct words; children = children; traversed = traversed }) → Exactly segment next (struct words) children (length children)
struct_exactly segment word next words children traversed before some room there small object =
    let f = struct_fields (next - (word + 1)) (length words) (length children) (omega arith) room.0 in
    let is : pointer (struct words) (length children) (next - (word + 1)) ≡ struct_pointer (next - (word + 1)) (length words) (length children) =
    ap (λ (o : ℕ). struct_pointer o (length words) (length children)) (if_positive (length words + length children) minus_one (next - (word + 1)) some) in
    local_exactly segment word next (struct_pointer (next - (word + 1)) (length words) (length children)) (struct words) children traversed before small (there
    ∙ ap Some is) (omega arith) (omega (arith, f.kind_is)) f.offset_is tt object

list_exactly : (segment : List ℕ) (word next c n : ℕ) (form : Form) (children : List Place) (traversed : ℕ) → word < next → c < 8
    → slice_get segment word ≡ Some (list_pointer (next - (word + 1)) c n) → next - (word + 1) < 2 ^ 29 → Padded segment next form
    → PointsTo (segment ∷ []) (record { segment = 0; word = word }) (record { form = form; children = children; traversed = traversed }) → Exactly segment next form children (length children)
list_exactly segment word next c n form children traversed before code there small padded object =
    let f = list_fields (next - (word + 1)) c n (omega arith) code in
    local_exactly segment word next (list_pointer (next - (word + 1)) c n) form children traversed before small there (omega arith) (omega (arith, f.kind_is)) f.offset_is padded object

null_exactly : (segment : List ℕ) (next : ℕ) (children : List Place) → next ≤ length segment → children ≡ [] → Exactly segment next null children (length children)
null_exactly segment next children within nothing =
    let empty : Exactly segment next null [] 0 = record { children_is = refl; holds = λ links long linked. holds_none segment next within } in
    subst (λ (l : List Place). Exactly segment next null l (length l)) (sym nothing) empty

empty_exactly : (segment : List ℕ) (next : ℕ) → next ≤ length segment → Exactly segment next (struct []) [] 0
empty_exactly segment next within =
    record { children_is = refl; holds = λ links long linked. subst (λ (l : List ℕ). Holds segment next l) (sym (nil_from_length links long)) (holds_none segment next within) }

-- at the next free word, an object's pointers are where they belong, and then so are its own words
pub preorder_object : (segment : List ℕ) (word next : ℕ) (form : Form) (children : List Place) (traversed : ℕ) → word < next → next ≤ length segment → HasRoom form (length children)
    → slice_get segment word ≡ Some (pointer form (length children) (next - (word + 1))) → Reaches form (length children) (next - (word + 1)) → Padded segment next form
    → PointsTo (segment ∷ []) (record { segment = 0; word = word }) (record { form = form; children = children; traversed = traversed }) → Exactly segment next form children (length children)
preorder_object segment word next null children traversed before within room there reach padded object = null_exactly segment next children within (null_object segment word
    (record { form = null; children = children; traversed = traversed }) there object)
preorder_object segment word next (struct []) [] traversed before within room there reach padded object = empty_exactly segment next within
preorder_object segment word next (struct (w ∷ words)) children traversed before within room there reach padded object =
    struct_exactly segment word next (w ∷ words) children traversed before (omega arith) room there (reach (omega arith)) object
preorder_object segment word next (struct []) (p ∷ children) traversed before within room there reach padded object =
    struct_exactly segment word next [] (p ∷ children) traversed before (omega arith) room there (reach (omega arith)) object
preorder_object segment word next (numbers c values) children traversed before within room there reach padded object =
    list_exactly segment word next c (length values) (numbers c values) children traversed before (omega (arith, room.0)) there reach padded object
preorder_object segment word next pointers children traversed before within room there reach padded object =
    list_exactly segment word next 6 (length children) pointers children traversed before (omega arith) there reach padded object
preorder_object segment word next (structs d p elements) children traversed before within room there reach padded object =
    list_exactly segment word next 7 (length elements * (d + p)) (structs d p elements) children traversed before (omega arith) there reach padded object
