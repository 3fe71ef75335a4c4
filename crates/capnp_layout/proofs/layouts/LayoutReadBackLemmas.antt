-- A layout is read back as its tree.
use Rattle.std.proofs.Common.{◌≡◌, ℕ, ◌+◌, ◌-◌, ◌*◌, ◌^◌, ◌<◌, ◌≤◌, ◌==◌, if◌then◌else◌, List, [], ◌∷◌, ◌++◌, length, Some, slice_get, refl, sym, ◌∙◌, ap, subst, arith, length-append}
use Rattle.std.proofs.lemmas.Bool.Decides.{nat_tests}
use Rattle.capnp_layout.specs.Prelude.{offset, struct_pointer, list_pointer, minus_one, Form, null, struct, numbers, pointers, structs, Trees, none, tree, count, PointsTo, is_null, At, nowhere, at, object_size, total_words, pointer, slots, pointers_to, own, body, HasRoom, AllHaveRoom, Reaches, AllReach, placed}
use Rattle.capnp_layout.proofs.words.WordRunPartsInSegmentLemmas.{Holds, holds_left, holds_right, holds_room, holds_none}
use Rattle.capnp_layout.proofs.pointers.PointerWordFieldLemmas.{StructFields, ListFields, struct_fields, list_fields}
use Rattle.capnp_layout.proofs.pointers.LayoutSlotPointersAndPlacesLemmas.{Linked}
use Rattle.capnp_layout.proofs.layouts.LayoutSizeLemmas.{Before, before_more, slots_before, length-slots, length-own_of, links_of, length-links, length-body, elements_even}
use Rattle.capnp_layout.proofs.layouts.ObjectReadBackLemmas.{Read, Points, read_struct, read_pointers, read_numbers, read_structs}

pub if_positive : (k a b : ℕ) → 0 < k → (if k == 0 then a else b) ≡ b
if_positive k a b positive = grind (arith, nat_tests)

-- the slot lies before the object
list_points : (segment : List ℕ) (base slot next tag c n : ℕ) → slot < next → next - (slot + 1) < 2 ^ 29 → slice_get segment (base + slot) ≡ Some tag
    → tag ≡ list_pointer (next - (slot + 1)) c n → ListFields tag (next - (slot + 1)) c n → Points segment (base + slot) tag (base + next)
list_points segment base slot next tag c n before small is_at is f =
    record { is_at = is_at; positive = omega arith; is_local = omega (arith, f.kind_is); target = omega (arith, f.offset_is) }

struct_points : (segment : List ℕ) (base slot next tag d p : ℕ) → slot < next → next - (slot + 1) < 2 ^ 29 → slice_get segment (base + slot) ≡ Some tag → 0 < d + p
    → tag ≡ struct_pointer (next - (slot + 1)) d p → StructFields tag (next - (slot + 1)) d p → Points segment (base + slot) tag (base + next)
struct_points segment base slot next tag d p before small is_at some is f =
    record { is_at = is_at; positive = omega arith; is_local = omega (arith, f.kind_is); target = omega (arith, f.offset_is) }

empty_points : (segment : List ℕ) (word : ℕ) → slice_get segment word ≡ Some (struct_pointer minus_one 0 0) → Points segment word (struct_pointer minus_one 0 0) word
empty_points segment word is_at = record { is_at = is_at; positive = omega arith; is_local = omega arith; target = omega arith }

here_struct : (m : List (List ℕ)) (k : ℕ) (segment : List ℕ) (there : slice_get m k ≡ Some segment) (base slot next : ℕ) (words links : List ℕ) → slot < next → next - (slot + 1) < 2 ^ 29
    → 0 < length words + length links → HasRoom (struct words) (length links)
    → slice_get segment (base + slot) ≡ Some (pointer (struct words) (length links) (next - (slot + 1))) → Holds segment (base + next) (own (struct words) links)
    → Read m k segment (base + slot) (base + next) (struct words) links
here_struct m k segment there base slot next words links before small some room is_at h =
    let tag : ℕ = struct_pointer (next - (slot + 1)) (length words) (length links) in
    let is : pointer (struct words) (length links) (next - (slot + 1)) ≡ struct_pointer (next - (slot + 1)) (length words) (length links) =
    ap (λ (o : ℕ). struct_pointer o (length words) (length links)) (if_positive (length words + length links) minus_one (next - (slot + 1)) some) in
    let f = struct_fields (next - (slot + 1)) (length words) (length links) (omega arith) room.0 in
    let is_at' : slice_get segment (base + slot) ≡ Some (struct_pointer (next - (slot + 1)) (length words) (length links)) = is_at ∙ ap Some is in
    let points = struct_points segment base slot next (struct_pointer (next - (slot + 1)) (length words) (length links)) (length words) (length links) before small is_at' some refl f in
    read_struct m k segment there (base + slot) (base + next) (struct_pointer (next - (slot + 1)) (length words) (length links)) (next - (slot + 1)) words links points f h

read_here : (m : List (List ℕ)) (k : ℕ) (segment : List ℕ) (there : slice_get m k ≡ Some segment) (base slot next : ℕ) (form : Form) (links : List ℕ) → slot < next
    → Reaches form (length links) (next - (slot + 1)) → base + next ≤ length segment → HasRoom form (length links)
    → slice_get segment (base + slot) ≡ Some (pointer form (length links) (next - (slot + 1))) → Holds segment (base + next) (own form links) → Read m k segment (base + slot) (base + next) form links
read_here m k segment there base slot next null [] before small within room is_at h = record { traversed = 0; object = is_null (rw there is_at); linked = refl }
read_here m k segment there base slot next null (x ∷ links) before small within room is_at h = absurd (omega (arith, room))
read_here m k segment there base slot next (struct []) [] before small within room is_at h =
    let f = struct_fields minus_one 0 0 (omega arith) (omega arith) in
    let r = read_struct m k segment there (base + slot) (base + slot) (struct_pointer minus_one 0 0) minus_one [] [] (empty_points segment (base + slot) is_at) f (holds_none segment
    (base + slot) (omega arith)) in
    record { traversed = r.traversed; object = r.object; linked = refl }
read_here m k segment there base slot next (struct (w ∷ words)) links before small within room is_at h = here_struct m k segment there base slot next (w ∷ words) links before (small
    (omega arith)) (omega arith) room is_at h
read_here m k segment there base slot next (struct []) (x ∷ links) before small within room is_at h = here_struct m k segment there base slot next [] (x ∷ links) before (small (omega arith))
    (omega arith) room is_at h
read_here m k segment there base slot next (numbers c values) [] before small within room is_at h =
    let f = list_fields (next - (slot + 1)) c (length values) (omega arith) (omega arith) in
    let points = list_points segment base slot next (list_pointer (next - (slot + 1)) c (length values)) c (length values) before small is_at refl f in
    read_numbers m k segment there (base + slot) (base + next) (list_pointer (next - (slot + 1)) c (length values)) (next - (slot + 1)) c values points f room.0 room.3 h
read_here m k segment there base slot next (numbers c values) (x ∷ links) before small within room is_at h = absurd (omega (arith, room.2))
read_here m k segment there base slot next pointers links before small within room is_at h =
    let f = list_fields (next - (slot + 1)) 6 (length links) (omega arith) (omega arith) in
    let points = list_points segment base slot next (list_pointer (next - (slot + 1)) 6 (length links)) 6 (length links) before small is_at refl f in
    read_pointers m k segment there (base + slot) (base + next) (list_pointer (next - (slot + 1)) 6 (length links)) (next - (slot + 1)) links points f h
read_here m k segment there base slot next (structs d p elements) links before small within room is_at h =
    let f = list_fields (next - (slot + 1)) 7 (length elements * (d + p)) (omega arith) (omega arith) in
    let g = struct_fields (length elements) d p (room.2) room.0 in
    let points = list_points segment base slot next (list_pointer (next - (slot + 1)) 7 (length elements * (d + p))) 7 (length elements * (d + p)) before small is_at refl f in
    read_structs m k segment there (base + slot) (base + next) (list_pointer (next - (slot + 1)) 7 (length elements * (d + p))) (next - (slot + 1)) (struct_pointer
    (length elements) d p) d p elements links points f g
    (elements_even d elements room.5) room.4 h

-- the first of some trees, and where the words after its own are
pub record First (m : List (List ℕ)) (k : ℕ) (segment : List ℕ) (base slot next : ℕ) (form : Form) (children rest : Trees) : Type 0 where
  pub traversed : ℕ
  pub object : PointsTo m (record { segment = k; word = base + slot }) (record { form = form; children = placed k (base + next) (slots form (count children)); traversed = traversed })
  pub linked : Linked segment (base + next) (slots form (count children)) (links_of form children)
  pub words : Holds segment (base + next) (own form (links_of form children))
  pub inner : Holds segment (base + next + object_size form (count children)) (body children)
  pub others : Holds segment (base + (next + object_size form (count children) + total_words children)) (body rest)

pub first_read : (m : List (List ℕ)) (k : ℕ) (segment : List ℕ) (there : slice_get m k ≡ Some segment) (base slot next : ℕ) (form : Form) (children rest : Trees) → slot < next
    → Reaches form (count children) (next - (slot + 1)) → AllHaveRoom (tree form children rest)
    → slice_get segment (base + slot) ≡ Some (pointer form (count children) (next - (slot + 1))) → Holds segment (base + next) (body (tree form children rest))
    → First m k segment base slot next form children rest
first_read m k segment there base slot next form children rest before reach room is_at h =
    let long : length (links_of form children) ≡ count children = length-links form children room.0 in
    let own_long : length (own form (links_of form children)) ≡ object_size form (count children) = length-own_of form children room.0 in
    let front : Holds segment (base + next) (own form (links_of form children) ++ body children) = holds_left segment (base + next) (own form (links_of form children) ++ body children) (body rest) h in
    let own_there : Holds segment (base + next) (own form (links_of form children)) = holds_left segment (base + next) (own form (links_of form children)) (body children) front in
    let front_long : length (own form (links_of form children) ++ body children) ≡ object_size form (count children) + total_words children =
    omega (arith, length-append (own form (links_of form children)) (body children), length-body children room.1) in
    let others_there : Holds segment (base + next + (object_size form (count children) + total_words children)) (body rest) =
    holds_right segment (base + next) (object_size form (count children) + total_words children) (own form (links_of form children) ++ body children) (body rest) front_long h in
    let onward : base + next + (object_size form (count children) + total_words children) ≡ base + (next + object_size form (count children) + total_words children) = omega arith in
    let read = read_here m k segment there base slot next form (links_of form children) before (subst (λ (n : ℕ). Reaches form n (next - (slot + 1))) (sym long) reach)
    (omega (arith, holds_room segment (base + next) (own form (links_of form children)) own_there)) (subst (λ (n : ℕ). HasRoom form n) (sym long) room.0)
    (subst (λ (n : ℕ). slice_get segment (base + slot) ≡ Some (pointer form n (next - (slot + 1)))) (sym long) is_at) own_there in
    record {
      traversed = read.traversed;
      object = subst (λ (n : ℕ). PointsTo m (record { segment = k; word = base + slot }) (record { form = form; children = placed k (base + next) (slots form n); traversed = read.traversed })) long read.object;
      linked = subst (λ (n : ℕ). Linked segment (base + next) (slots form n) (links_of form children)) long read.linked;
      words = own_there;
      inner = holds_right segment (base + next) (object_size form (count children)) (own form (links_of form children)) (body children) own_long front;
      others = subst (λ (n : ℕ). Holds segment n (body rest)) onward others_there;
    }

-- trees that are in slots, counted from a base, with their bodies from a word on
pub trees_are_at : (m : List (List ℕ)) (k : ℕ) (segment : List ℕ) (there : slice_get m k ≡ Some segment) (base : ℕ) (places : List ℕ) (next : ℕ) (trees : Trees) → AllReach places next trees
    → AllHaveRoom trees → length places ≡ count trees → Before next places
    → Linked segment base places (pointers_to places next trees) → Holds segment (base + next) (body trees) → (traversed : ℕ) × At m (placed k base places) trees traversed
trees_are_at m k segment there base [] next none reach room long before linked h = (0, nowhere)
trees_are_at m k segment there base (slot ∷ more) next none reach room long before linked h = absurd (omega arith)
trees_are_at m k segment there base [] next (tree form children rest) reach room long before linked h = absurd (omega arith)
trees_are_at m k segment there base (slot ∷ more) next (tree form children rest) reach room long before linked h =
    let f = first_read m k segment there base slot next form children rest before.0 reach.0 room linked.0 h in
    let inner = trees_are_at m k segment there (base + next) (slots form (count children)) (object_size form (count children)) children reach.1 room.1 (length-slots form (count children) room.0) (slots_before form
    (count children) room.0) f.linked f.inner in
    let following = trees_are_at m k segment there base more (next + object_size form (count children) + total_words children) rest reach.2 room.2 (omega arith)
    (before_more next (next + object_size form (count children) + total_words children) more (omega arith) before.1) linked.1 f.others in
    (f.traversed + inner.0 + following.0, at f.object inner.1 following.1)

-- few words are within reach
pub local_reaches : (form : Form) (n offset : ℕ) → offset < 2 ^ 29 → Reaches form n offset
local_reaches null n offset small = tt
local_reaches (struct words) n offset small = λ some. small
local_reaches (numbers c values) n offset small = small
local_reaches pointers n offset small = small
local_reaches (structs d p elements) n offset small = small

pub few_reach : (places : List ℕ) (next : ℕ) (trees : Trees) → next + total_words trees ≤ 2 ^ 29 → AllReach places next trees
few_reach places next none few = tt
few_reach [] next (tree form children rest) few = tt
few_reach (slot ∷ others) next (tree form children rest) few = (
  local_reaches form (count children) (next - (slot + 1)) (omega arith),
  few_reach (slots form (count children)) (object_size form (count children)) children (omega arith),
  few_reach others (next + object_size form (count children) + total_words children) rest (omega arith),
)
