-- Lists and structs in the segments of their pointers: each begins where the offset says, and is the object of its
-- pointer.
use Rattle.std.proofs.Common.{◌≡◌, Bool, true, false, if◌then◌else◌, ℕ, ◌+◌, ◌*◌, ◌/◌, ◌^◌, ◌<◌, ◌≤◌, List, All, length, Some, slice_get, Bor, refl, ap, subst, arith}
use Rattle.std.specs.Prelude.{⊤}
use Rattle.capnp_layout.specs.Prelude.{words_of, offset, pointer_kind, IsLocalShape, IsElementsTag, code_of, width, words_for, word_at, local, Target, Lands, Shape, ShapeIsAt, PointsTo, is_object, IsObject, shape_of, room_of, words_in, traversed_of, local_struct_of, structs_of, least_size, output_body_of}
use Rattle.capnp_layout.specs.Object.{following}
use Rattle.capnp_layout.specs.declared.place.Place.{Place}
use Rattle.capnp_layout.specs.declared.element_size.ElementSize.{ElementSize}
use Rattle.capnp_layout.specs.declared.pointer.LocalShape.TheVariants.{Numbers as LocalNumbers, Pointers as LocalPointers, Struct as LocalStructShape, Structs as LocalStructs}
use Rattle.capnp_layout.specs.declared.object.Body.{Body}
use Rattle.capnp_layout.specs.declared.pointer.Elements.{Elements}
use Rattle.capnp_layout.specs.declared.pointer.StructSize.{StructSize}
use Rattle.capnp_layout.specs.declared.object.Body.TheVariants.{Struct, Numbers, Pointers, Structs}
use Rattle.capnp_layout.proofs.pointers.ObjectFitOrErrorLemmas.{struct_is_at, numbers_are_at, pointers_are_at, structs_are_at}
use Rattle.capnp_layout.proofs.trees.ReadTreeSizesAndWordsBoundedLemmas.{room_of_shape}

-- an object is where a pointer within its segment points to, if there is room for the object
local_is_at : (m : List (List ℕ)) (place : Place) (pointer : ℕ) (segment : Bor (List ℕ)) (start : ℕ) (body : Body) (traversed : ℕ)
    → word_at m place ≡ Some pointer → 0 < pointer → pointer < 2 ^ 64 → pointer_kind pointer < 2 → slice_get m place.segment ≡ Some (words_of segment.now)
    → start + 2 ^ 30 * (offset pointer / 2 ^ 29) ≡ place.word + 1 + offset pointer
    → (let here : Place = record { segment = place.segment; word = start } in let shape = shape_of (words_of segment.now) here body in
    ShapeIsAt (words_of segment.now) here pointer shape × (shape.traversed ≡ traversed))
    → traversed_of body ≤ traversed → All (λ w. w < 2 ^ 64) (words_of segment.now) → start + room_of body ≤ length segment.now / 8 → words_in body ≤ room_of body
    → IsObject m place (record { segment = segment; start = record { segment = place.segment; word = start }; body = body; traversed = traversed })
local_is_at m place pointer segment start body traversed word positive small kind content begins there traversal words_fit room inside =
    let words = words_of segment.now in
    let here : Place = record { segment = place.segment; word = start } in
    let landing : Target = record { segment = place.segment; origin = following place.word; tag = pointer; landing_pads = 0 } in
    let shape : Shape = shape_of words here body in
    let lands : Lands m place landing = local word positive kind in
    let object : PointsTo m place (record shape { traversed = 0 + shape.traversed }) = is_object lands content begins there.0 in
    let traversed_is : 0 + shape.traversed ≡ traversed = omega (arith, there.1) in
    record {
      content = content;
      object = subst (λ (x : ℕ). PointsTo m place (record shape { traversed = x })) traversed_is object;
      landing = landing;
      lands = lands;
      number = refl;
      begins = begins;
      room = room;
      elements = inside;
      traversed = traversal;
      has_room = room_of_shape words here pointer shape small words_fit there.0;
    }

-- a list of numbers
pub number_list_is_at : (m : List (List ℕ)) (place : Place) (pointer : ℕ) (segment : Bor (List ℕ)) (start : ℕ) (size : ElementSize) (count traversed : ℕ)
    → word_at m place ≡ Some pointer → pointer < 2 ^ 64 → slice_get m place.segment ≡ Some (words_of segment.now)
    → start + 2 ^ 30 * (offset pointer / 2 ^ 29) ≡ place.word + 1 + offset pointer → IsLocalShape pointer (LocalNumbers size count)
    → traversed ≡ traversed_of (Numbers size count) → All (λ w. w < 2 ^ 64) (words_of segment.now) → start + words_for count (width (code_of size)) ≤ length segment.now / 8
    → IsObject m place (record { segment = segment; start = record { segment = place.segment; word = start }; body = Numbers size count; traversed = traversed })
number_list_is_at m place pointer segment start size count traversed word small content begins list traversed_is words_fit room =
    let here : Place = record { segment = place.segment; word = start } in
    let is_at = numbers_are_at segment.now here pointer (code_of size) count list.0 list.1 list.2 list.3 room in
    local_is_at m place pointer segment start (Numbers size count) traversed word (omega (arith, list.0)) small (omega (arith, list.0)) content begins
    (is_at, omega (arith, traversed_is)) (omega (arith, traversed_is)) words_fit room (omega arith)

-- a list of pointers
pub pointer_list_is_at : (m : List (List ℕ)) (place : Place) (pointer : ℕ) (segment : Bor (List ℕ)) (start count : ℕ)
    → word_at m place ≡ Some pointer → pointer < 2 ^ 64 → slice_get m place.segment ≡ Some (words_of segment.now)
    → start + 2 ^ 30 * (offset pointer / 2 ^ 29) ≡ place.word + 1 + offset pointer → IsLocalShape pointer (LocalPointers count)
    → All (λ w. w < 2 ^ 64) (words_of segment.now) → start + count ≤ length segment.now / 8
    → IsObject m place (record { segment = segment; start = record { segment = place.segment; word = start }; body = Pointers count; traversed = count })
pointer_list_is_at m place pointer segment start count word small content begins list words_fit room =
    let here : Place = record { segment = place.segment; word = start } in
    let is_at = pointers_are_at segment.now here pointer count list.0 list.1 list.2 room in
    local_is_at m place pointer segment start (Pointers count) count word (omega (arith, list.0)) small (omega (arith, list.0)) content begins
    (is_at, refl) (omega arith) words_fit room (omega arith)

-- a struct
pub struct_is_at_local : (m : List (List ℕ)) (place : Place) (pointer : ℕ) (segment : Bor (List ℕ)) (start : ℕ) (size : StructSize)
    → word_at m place ≡ Some pointer → 0 < pointer → pointer < 2 ^ 64 → slice_get m place.segment ≡ Some (words_of segment.now)
    → start + 2 ^ 30 * (offset pointer / 2 ^ 29) ≡ place.word + 1 + offset pointer → IsLocalShape pointer (LocalStructShape size)
    → All (λ w. w < 2 ^ 64) (words_of segment.now) → start + (size.data_words + size.pointers) ≤ length segment.now / 8
    → IsObject m place (local_struct_of (record { segment = segment; start = record { segment = place.segment; word = start }; size = size }))
struct_is_at_local m place pointer segment start size word positive small content begins is words_fit room =
    let here : Place = record { segment = place.segment; word = start } in
    let is_at = struct_is_at segment.now here pointer size.data_words size.pointers is.0 is.1 is.2 room in
    local_is_at m place pointer segment start (Struct size) (size.data_words + size.pointers) word positive small (omega (arith, is.0)) content begins
    (is_at, refl) (omega arith) words_fit room (omega arith)

-- a list of structs
pub struct_list_is_at : (m : List (List ℕ)) (place : Place) (pointer tag : ℕ) (segment : Bor (List ℕ)) (start : ℕ) (elements : Elements) (words_after : ℕ)
    → word_at m place ≡ Some pointer → pointer < 2 ^ 64 → slice_get m place.segment ≡ Some (words_of segment.now)
    → start + 2 ^ 30 * (offset pointer / 2 ^ 29) ≡ place.word + 1 + offset pointer → IsLocalShape pointer (LocalStructs words_after)
    → slice_get (words_of segment.now) start ≡ Some tag → IsElementsTag tag elements
    → All (λ w. w < 2 ^ 64) (words_of segment.now) → start + (1 + words_after) ≤ length segment.now / 8
    → elements.count * (elements.size.data_words + elements.size.pointers) ≤ words_after
    → IsObject m place (structs_of (record { segment = segment; start = record { segment = place.segment; word = start }; elements = elements; words = words_after }))
struct_list_is_at m place pointer tag segment start elements words_after word small content begins list tag_there is words_fit room few =
    let here : Place = record { segment = place.segment; word = start } in
    let size = elements.size in
    let is_at = structs_are_at segment.now here pointer tag size.data_words size.pointers elements.count words_after list.0 list.1 list.2
    tag_there is.struct_kind is.count_is is.data_is is.pointers_are room few in
    local_is_at m place pointer segment start (Structs elements words_after) (traversed_of (Structs elements words_after)) word (omega (arith, list.0)) small (omega (arith, list.0))
    content begins (is_at, refl) (omega arith) words_fit room (omega (arith, few))

-- a list without structs is the same in canonical form
abbrev pub IsPlainList : Body → Type 0
IsPlainList (Numbers size count) = ⊤
IsPlainList (Pointers count) = ⊤
IsPlainList other = ⊥

pub list_output : (c : Bool) (words : List ℕ) (start : ℕ) (list : Body) → IsPlainList list → list ≡ output_body_of c words start list
list_output true words start (Numbers size count) plain = refl
list_output true words start (Pointers count) plain = refl
list_output true words start (Struct size) plain = absurd plain
list_output true words start (Structs elements words_after) plain = absurd plain
list_output false words start list plain = refl

-- the word of a segment of the message
pub word_there : (m : List (List ℕ)) (place : Place) (words : List ℕ) (word : ℕ) → slice_get m place.segment ≡ Some words → slice_get words place.word ≡ Some word → word_at m place ≡ Some word
word_there m place words word there is = rw there is

-- the copy of a struct
pub local_struct_output : (c : Bool) (words : List ℕ) (start : ℕ) (size from : StructSize) → size ≡ (if c then least_size words start from 1 else from)
    → Struct size ≡ output_body_of c words start (Struct from)
local_struct_output true words start size from is = ap (λ (s : StructSize). Struct s) is
local_struct_output false words start size from is = ap (λ (s : StructSize). Struct s) is
