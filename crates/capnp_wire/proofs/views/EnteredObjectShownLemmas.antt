-- What holds of an object that was entered is shown at its pointer, and read of it. One of another kind than is
-- wanted is an error, and so is a text without a last zero.
use Rattle.std.proofs.Common.{◌≡◌, ℕ, suc, ◌+◌, List, [], ◌∷◌, ◌++◌, length, take, slice_index_or, Result, Ok, Err, MatchResult, inr, refl, sym, ◌∙◌, ap, subst, arith, length-append}
use Rattle.std.proofs.lemmas.List.{take_all}
use Rattle.std.proofs.Math.Seq.{take-suc, get_or-append_seam}
use Rattle.capnp_frame.specs.declared.error.Error.{Error}
use Rattle.capnp_frame.specs.declared.error.ErrorKind.{ErrorKind}
use Rattle.capnp_frame.specs.declared.error.ErrorKind.TheVariants.{WrongPointerKind, TextNotTerminated}
use Rattle.capnp_layout.specs.Prelude.{words_of, words_from, code_of, Form, numbers, elements, places, Within, shape_of}
use Rattle.capnp_wire.specs.Prelude.{Pointer, at_place, Shows, Reads, ViewError, IsText, HasData, TakesNumbers, TakesText, TakesStruct, NumbersFormError, TextFormError, StructFormError, IsEntered, form_of}
use Rattle.capnp_layout.specs.declared.place.Place.{Place}
use Rattle.capnp_layout.specs.declared.element_size.ElementSize.{ElementSize}
use Rattle.capnp_layout.specs.declared.element_size.ElementSize.TheVariants.{Void, Bit, Byte, TwoBytes, FourBytes, EightBytes}
use Rattle.capnp_layout.specs.declared.object.Body.{Body}
use Rattle.capnp_layout.specs.declared.object.Body.TheVariants.{Struct, Numbers, Pointers, Structs}
use Rattle.capnp_layout.specs.declared.pointer.StructSize.{StructSize}
use Rattle.capnp_layout.specs.declared.object.Object.{Object as ReadObject}

-- what holds of the form of an object that was entered is shown of its pointer, and read of it
pub entered_shows : (p : Pointer) (object : ReadObject) (fact : Form → Type 0) → IsEntered p object → fact (form_of object) → Shows p (λ shape. fact shape.form)
entered_shows p object fact entered holds = (
  record (shape_of (words_of object.segment.now) object.start object.body) { traversed = object.traversed },
  at_place entered.is_at entered.object_is.object (λ not. entered.nesting),
  holds,
)

pub entered_reads : (p : Pointer) (object : ReadObject) (fact : Form → Type 0) → IsEntered p object → fact (form_of object) → Reads p fact
entered_reads p object fact entered holds = (
  record (shape_of (words_of object.segment.now) object.start object.body) { traversed = object.traversed },
  at_place entered.is_at entered.object_is.object (λ not. entered.nesting),
  (holds, entered.within),
)

-- and a view of the object is a view of its pointer
pub entered_view : {V : Type 0} (p : Pointer) (object : ReadObject) (shows : V → Form → Type 0) (form_error : Form → ErrorKind → Type 0)
    (result : Result V Error) → IsEntered p object
    → MatchResult result (λ view. shows view (form_of object)) (λ error. form_error (form_of object) error.kind)
    → MatchResult result (λ view. Reads p (shows view)) (λ error. ViewError p form_error error.kind)
entered_view p object shows form_error (Ok view) entered holds = entered_reads p object (shows view) entered holds
entered_view p object shows form_error (Err error) entered holds = inr (entered_shows p object (λ form. form_error form error.kind) entered holds)

pub entered_shown : (p : Pointer) (object : ReadObject) (fact : Form → List Place → Type 0) → IsEntered p object
    → (let shape = shape_of (words_of object.segment.now) object.start object.body in fact shape.form shape.children)
    → Shows p (λ shape. fact shape.form shape.children × Within p.limit shape.traversed)
entered_shown p object fact entered holds = (
  record (shape_of (words_of object.segment.now) object.start object.body) { traversed = object.traversed },
  at_place entered.is_at entered.object_is.object (λ not. entered.nesting),
  (holds, entered.within),
)

-- a view does not reject a list of numbers that it accepts
pub numbers_form : (object : ReadObject) (sizes : ElementSize) (n : ℕ) (values : List ℕ) → object.body ≡ Numbers sizes n
    → values ≡ elements (words_of object.segment.now) object.start.word (code_of sizes) n → form_of object ≡ numbers (code_of sizes) values
numbers_form object sizes n values body values_are =
    ap (λ (b : Body). (shape_of (words_of object.segment.now) object.start b).form) body ∙ ap (numbers (code_of sizes)) (sym values_are)

-- sizes of elements, by their codes
size_back : (size : ElementSize) → slice_index_or (Void ∷ Bit ∷ Byte ∷ TwoBytes ∷ FourBytes ∷ EightBytes ∷ []) (code_of size) Void ≡ size
size_back Void = refl
size_back Bit = refl
size_back Byte = refl
size_back TwoBytes = refl
size_back FourBytes = refl
size_back EightBytes = refl

same_size : (a b : ElementSize) → code_of a ≡ code_of b → a ≡ b
same_size a b e =
    sym (size_back a) ∙ ap (λ (c : ℕ). slice_index_or (Void ∷ Bit ∷ Byte ∷ TwoBytes ∷ FourBytes ∷ EightBytes ∷ []) c Void) e ∙ size_back b

other_numbers : (words : List ℕ) (start : Place) (body : Body) (wanted : ElementSize) → ((n : ℕ) → body ≡ Numbers wanted n → ⊥) → TakesNumbers (code_of wanted) (shape_of words start body).form → ⊥
other_numbers words start (Struct size) wanted none t = t
other_numbers words start (Numbers size n) wanted none t = none n (ap (λ x. Numbers x n) (same_size size wanted t))
other_numbers words start (Pointers n) wanted none t = t
other_numbers words start (Structs elements_there following) wanted none t = t

pub other_than_numbers : (object : ReadObject) (wanted : ElementSize) (kind : ErrorKind) → ((n : ℕ) → object.body ≡ Numbers wanted n → ⊥)
    → kind ≡ WrongPointerKind → NumbersFormError (code_of wanted) (form_of object) kind
other_than_numbers object wanted kind none is = (other_numbers (words_of object.segment.now) object.start object.body wanted none, is)

other_struct : (words : List ℕ) (start : Place) (body : Body) → ((size : StructSize) → body ≡ Struct size → ⊥) → TakesStruct (shape_of words start body).form → ⊥
other_struct words start (Struct size) none t = none size refl
other_struct words start (Numbers size n) none t = t
other_struct words start (Pointers n) none t = t
other_struct words start (Structs elements_there following) none t = t

pub other_than_struct : (object : ReadObject) (kind : ErrorKind) → ((size : StructSize) → object.body ≡ Struct size → ⊥) → kind ≡ WrongPointerKind → StructFormError (form_of object) kind
other_than_struct object kind none is = (other_struct (words_of object.segment.now) object.start object.body none, is)

-- the fields of a struct that was entered
pub struct_shows : (p : Pointer) (object : ReadObject) (size : StructSize) → IsEntered p object → object.body ≡ Struct size
    → Shows p (λ shape. HasData shape.form (words_from (words_of object.segment.now) object.start.word size.data_words)
    × (places object.start.segment (object.start.word + size.data_words) size.pointers ≡ shape.children) × Within p.limit shape.traversed)
struct_shows p object size entered body =
    let words = words_of object.segment.now in
    let fact : Body → Type 0 = λ b. HasData (shape_of words object.start b).form (words_from words object.start.word size.data_words)
    × (places object.start.segment (object.start.word + size.data_words) size.pointers ≡ (shape_of words object.start b).children) in
    let holds : fact object.body = subst fact (sym body) (refl, refl) in (
      record (shape_of words object.start object.body) { traversed = object.traversed },
      at_place entered.is_at entered.object_is.object (λ not. entered.nesting),
      (holds.0, holds.1, entered.within),
    )

-- a list of bytes that ends with a zero, and one that does not
pub zero_after : (bytes : List ℕ) (n : ℕ) → suc n ≡ length bytes → slice_index_or bytes n 0 ≡ 0 → bytes ≡ take n bytes ++ 0 ∷ []
zero_after bytes n long zero_is =
    let all : take (suc n) bytes ≡ bytes = take_all (suc n) bytes (omega arith) in
    let split : take (suc n) bytes ≡ take n bytes ++ slice_index_or bytes n 0 ∷ [] = take-suc bytes n 0 (omega arith) in
    sym all ∙ split ∙ ap (λ (x : ℕ). take n bytes ++ x ∷ []) zero_is

pub no_zero_after : (bytes text : List ℕ) (n : ℕ) → bytes ≡ text ++ 0 ∷ [] → suc n ≡ length bytes → slice_index_or bytes n 0 ≡ 0
no_zero_after bytes text n e long =
    let one_more : length bytes ≡ length text + 1 = ap (λ (l : List ℕ). length l) e ∙ length-append text (0 ∷ []) in
    let at : n ≡ length text = omega arith in
    ap (λ (l : List ℕ). slice_index_or l n 0) e ∙ ap (λ (i : ℕ). slice_index_or (text ++ 0 ∷ []) i 0) at ∙ get_or-append_seam text 0 [] 0

pub ends_with_zero : (form : Form) (bytes text : List ℕ) → form ≡ numbers 2 bytes → bytes ≡ text ++ 0 ∷ [] → IsText form text
ends_with_zero form bytes text is ends = subst (λ f. IsText f text) (sym is) (refl, ends)

pub no_zero_at_end : (form : Form) (bytes : List ℕ) (kind : ErrorKind) → form ≡ numbers 2 bytes
    → ((text : List ℕ) → bytes ≡ text ++ 0 ∷ [] → ⊥) → kind ≡ TextNotTerminated → TextFormError form kind
no_zero_at_end form bytes kind form_is none is =
    let form_errors : (TakesNumbers 2 (numbers 2 bytes)) × (TakesText (numbers 2 bytes) → ⊥) × (kind ≡ TextNotTerminated) =
    (refl, (λ t. none t.1.0 t.1.1), is) in
    subst (λ f. TextFormError f kind) (sym form_is) (inr form_errors)
