-- What views of lists of structs and of pointers show of a list that was entered, which objects they reject, and
-- bounds of how many elements there are.
use Rattle.std.proofs.Common.{◌≡◌, ℕ, ◌+◌, ◌*◌, ◌/◌, ◌^◌, ◌<◌, ◌≤◌, List, length, refl, sym, ap, subst, arith}
use Rattle.capnp_frame.specs.declared.error.ErrorKind.{ErrorKind}
use Rattle.capnp_frame.specs.declared.error.ErrorKind.TheVariants.{WrongPointerKind}
use Rattle.capnp_layout.specs.Prelude.{number_of, words_of, words_from, code_of, width, words_for, HasRoom, Form, null, struct, numbers, pointers, structs, places, pointer_places, elements_from, Within, shape_of, room_of, words_in}
use Rattle.capnp_wire.specs.Prelude.{Pointer, at_place, Shows, Accepts, Reads, TakesNumbers, IsNumbers, IsEntered, form_of, StructList, PointerList, HasElements, IsStructList, IsPointerList, TakesStructs, TakesPointers, StructsFormError, PointersFormError, structs_in}
use Rattle.capnp_layout.specs.declared.place.Place.{Place}
use Rattle.capnp_layout.specs.declared.element_size.ElementSize.{ElementSize}
use Rattle.capnp_layout.specs.declared.object.Body.{Body}
use Rattle.capnp_layout.specs.declared.object.Body.TheVariants.{Struct, Numbers, Pointers, Structs}
use Rattle.capnp_layout.specs.declared.pointer.Elements.{Elements}
use Rattle.capnp_layout.specs.declared.object.Object.{Object as ReadObject}
use Rattle.capnp_layout.proofs.words.DigitsToNumberAndBackLemmas.{length-digits}
use Rattle.capnp_layout.proofs.objects.SectionWordByIndexLemmas.{length-places}
use Rattle.capnp_layout.proofs.trees.ReadTreeSizesAndWordsBoundedLemmas.{length-elements_from}
use Rattle.capnp_wire.proofs.views.RejectedExcludesAcceptedLemmas.{Decides, wrong_kind_once, wrong_kind_unlimited}

pub structs_decide : Decides TakesStructs StructsFormError
structs_decide = record {
  apart = λ form kind form_errors. form_errors.0;
  once = λ form kind other p q. wrong_kind_once kind other p.1 q.1;
  unlimited = λ form kind form_errors. wrong_kind_unlimited kind form_errors.1;
}

pub pointers_decide : Decides TakesPointers PointersFormError
pointers_decide = record {
  apart = λ form kind form_errors. form_errors.0;
  once = λ form kind other p q. wrong_kind_once kind other p.1 q.1;
  unlimited = λ form kind form_errors. wrong_kind_unlimited kind form_errors.1;
}

-- what a list of structs shows is of a form that it accepts
elements_taken : (form : Form) (p : ℕ) (elements : List (List ℕ)) → HasElements form p elements → TakesStructs form
elements_taken null p elements t = tt
elements_taken (struct words) p elements t = t
elements_taken (numbers code values) p elements t = t
elements_taken pointers p elements t = t
elements_taken (structs d q there) p elements t = tt

pub structs_accepted : (p : Pointer) (list : StructList) → IsStructList p list → Accepts p TakesStructs
structs_accepted p list read = (read.shown.0, read.shown.1, elements_taken read.shown.0.form list.pointer_words list.elements read.shown.2.0)

pub pointers_accepted : (p : Pointer) (list : PointerList) → IsPointerList p list → Accepts p TakesPointers
pointers_accepted p list read = (read.shown.0, read.shown.1, read.shown.2.0)

-- an object of another kind is rejected
other_structs : (words : List ℕ) (start : Place) (body : Body) → ((elements : Elements) (following : ℕ) → body ≡ Structs elements following → ⊥) → TakesStructs (shape_of words start body).form → ⊥
other_structs words start (Struct size) none t = t
other_structs words start (Numbers size n) none t = t
other_structs words start (Pointers n) none t = t
other_structs words start (Structs elements following) none t = none elements following refl

pub other_than_structs : (object : ReadObject) (kind : ErrorKind) → ((elements : Elements) (following : ℕ) → object.body ≡ Structs elements following → ⊥)
    → kind ≡ WrongPointerKind → StructsFormError (form_of object) kind
other_than_structs object kind none is = (other_structs (words_of object.segment.now) object.start object.body none, is)

other_pointers : (words : List ℕ) (start : Place) (body : Body) → ((n : ℕ) → body ≡ Pointers n → ⊥) → TakesPointers (shape_of words start body).form → ⊥
other_pointers words start (Struct size) none t = t
other_pointers words start (Numbers size n) none t = t
other_pointers words start (Pointers n) none t = none n refl
other_pointers words start (Structs elements following) none t = t

pub other_than_pointers : (object : ReadObject) (kind : ErrorKind) → ((n : ℕ) → object.body ≡ Pointers n → ⊥) → kind ≡ WrongPointerKind → PointersFormError (form_of object) kind
other_than_pointers object kind none is = (other_pointers (words_of object.segment.now) object.start object.body none, is)

-- the elements of a list of structs that was entered
pub structs_show : (p : Pointer) (object : ReadObject) (elements : Elements) (following : ℕ) → IsEntered p object → object.body ≡ Structs elements following
    → Shows p (λ shape. HasElements shape.form elements.size.pointers
    (elements_from (words_of object.segment.now) (object.start.word + 1) elements.size.data_words elements.size.pointers elements.count)
    × (pointer_places object.start.segment (object.start.word + 1) elements.size.data_words elements.size.pointers elements.count ≡ shape.children)
    × Within p.limit shape.traversed)
structs_show p object elements following entered body =
    let words = words_of object.segment.now in
    let size = elements.size in
    let fact : Body → Type 0 = λ b. HasElements (shape_of words object.start b).form size.pointers (elements_from words (object.start.word + 1) size.data_words size.pointers elements.count)
    × (pointer_places object.start.segment (object.start.word + 1) size.data_words size.pointers elements.count ≡ (shape_of words object.start b).children) in
    let holds : fact object.body = subst fact (sym body) ((refl, refl), refl) in (
      record (shape_of words object.start object.body) { traversed = object.traversed },
      at_place entered.is_at entered.object_is.object (λ not. entered.nesting),
      (holds.0, holds.1, entered.within),
    )

pub structs_entered : (p : Pointer) (object : ReadObject) (elements : Elements) (following : ℕ) → IsEntered p object → object.body ≡ Structs elements following
    → IsStructList p (structs_in p object 1 elements)
structs_entered p object elements following entered body = record {
  same_message = refl;
  shown = structs_show p object elements following entered body;
  nesting_below = refl;
  same_limit = refl;
}

-- these lie within its segment
pub structs_within : (p : Pointer) (object : ReadObject) (elements : Elements) (following : ℕ) → IsEntered p object → object.body ≡ Structs elements following
    → object.start.word + 1 + elements.count * (elements.size.data_words + elements.size.pointers) ≤ length object.segment.now / 8
structs_within p object elements following entered body =
    let room = entered.object_is.room in
    let inside = entered.object_is.elements in
    let all : words_in object.body ≡ 1 + elements.count * (elements.size.data_words + elements.size.pointers) = ap words_in body in
    omega (arith, room, inside, all)

-- the pointers of a list that was entered
pub pointers_show : (p : Pointer) (object : ReadObject) (n : ℕ) → IsEntered p object → object.body ≡ Pointers n
    → Shows p (λ shape. TakesPointers shape.form × (places object.start.segment object.start.word n ≡ shape.children) × Within p.limit shape.traversed)
pointers_show p object n entered body =
    let words = words_of object.segment.now in
    let fact : Body → Type 0 = λ b. TakesPointers (shape_of words object.start b).form × (places object.start.segment object.start.word n ≡ (shape_of words object.start b).children) in
    let holds : fact object.body = subst fact (sym body) (tt, refl) in (
      record (shape_of words object.start object.body) { traversed = object.traversed },
      at_place entered.is_at entered.object_is.object (λ not. entered.nesting),
      (holds.0, holds.1, entered.within),
    )

-- what a list of numbers shows is of a form that it accepts
numbers_taken : (form : Form) (code : ℕ) (values : List ℕ) → IsNumbers code form values → TakesNumbers code form
numbers_taken null code values t = tt
numbers_taken (struct words) code values t = t
numbers_taken (numbers there are) code values t = t.0
numbers_taken pointers code values t = t
numbers_taken (structs d p elements) code values t = t

pub numbers_accepted : (p : Pointer) (code : ℕ) (values : List ℕ) → Reads p (λ form. IsNumbers code form values) → Accepts p (TakesNumbers code)
numbers_accepted p code values read = (read.0, read.1, numbers_taken read.0.form code values read.2.0)

-- a list that was entered has no more elements, and of structs no more words, than a pointer can
-- say
room_entered : (p : Pointer) (object : ReadObject) (body : Body) → IsEntered p object → object.body ≡ body
    → let shape = shape_of (words_of object.segment.now) object.start body in HasRoom shape.form (length shape.children)
room_entered p object body entered is =
    subst (λ (b : Body). let shape = shape_of (words_of object.segment.now) object.start b in HasRoom shape.form (length shape.children)) is entered.object_is.has_room

pub few_structs : (p : Pointer) (object : ReadObject) (elements : Elements) (following : ℕ) → IsEntered p object → object.body ≡ Structs elements following
    → (elements.count < 2 ^ 30) × (elements.count * (elements.size.data_words + elements.size.pointers) < 2 ^ 29)
few_structs p object elements following entered body =
    let size = elements.size in
    let room = room_entered p object (Structs elements following) entered body in
    let long = length-elements_from (words_of object.segment.now) (object.start.word + 1) size.data_words size.pointers elements.count in (
      subst (λ (k : ℕ). k < 2 ^ 30) long room.2,
      subst (λ (k : ℕ). k * (size.data_words + size.pointers) < 2 ^ 29) long room.3,
    )

pub few_pointers : (p : Pointer) (object : ReadObject) (n : ℕ) → IsEntered p object → object.body ≡ Pointers n → n < 2 ^ 29
few_pointers p object n entered body =
    let room = room_entered p object (Pointers n) entered body in omega (arith, room, length-places object.start.segment object.start.word n)

pub few_numbers : (p : Pointer) (object : ReadObject) (size : ElementSize) (n : ℕ) → IsEntered p object → object.body ≡ Numbers size n → n < 2 ^ 29
few_numbers p object size n entered body =
    let code = code_of size in
    let room = room_entered p object (Numbers size n) entered body in
    let long = length-digits (2 ^ width code) n (number_of (2 ^ 64) (words_from (words_of object.segment.now) object.start.word (words_for n (width code)))) in
    subst (λ (k : ℕ). k < 2 ^ 29) long room.1

-- and its pointers lie within its segment
pub list_pointers_within : (p : Pointer) (object : ReadObject) (n : ℕ) → IsEntered p object → object.body ≡ Pointers n → length object.segment.now < 2 ^ 64 → object.start.word + n < 2 ^ 61
list_pointers_within p object n entered body small =
    let room = entered.object_is.room in
    let all : room_of object.body ≡ n = ap room_of body in
    omega (arith, room, all)
