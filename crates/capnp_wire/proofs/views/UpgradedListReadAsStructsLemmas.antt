-- Lists that are read as lists of structs, also of numbers and of pointers, where each element is a struct of one
-- field: which are accepted, and what is read of them.
use Rattle.std.proofs.lemmas.List.{length-map, get_or-map}
use Rattle.std.proofs.Common.{◌≡◌, ◌≢◌, ℕ, zero, suc, ◌+◌, ◌-◌, ◌<◌, List, [], ◌∷◌, length, map, slice_index_or, inr, refl, sym, ◌∙◌, ap, subst, arith}
use Rattle.std.specs.Prelude.{replicate}
use Rattle.capnp_frame.specs.declared.error.ErrorKind.{ErrorKind}
use Rattle.capnp_frame.specs.declared.error.ErrorKind.TheVariants.{WrongPointerKind}
use Rattle.capnp_layout.specs.Prelude.{words_of, code_of, width, Form, null, struct, numbers, pointers, structs, elements, places, pointer_places, elements_from, shape_of}
use Rattle.capnp_wire.specs.Prelude.{Pointer, Accepts, ViewError, IsEntered, form_of, StructList, structs_in, number_struct, ReadsAsStructs, TakesAsStructs, ElementsFormError, IsUpgradedStructs, elements_without_data}
use Rattle.capnp_layout.specs.declared.place.Place.{Place}
use Rattle.capnp_layout.specs.declared.element_size.ElementSize.{ElementSize}
use Rattle.capnp_layout.specs.declared.element_size.ElementSize.TheVariants.{Void, Bit, Byte, TwoBytes, FourBytes, EightBytes}
use Rattle.capnp_layout.specs.declared.object.Body.{Body}
use Rattle.capnp_layout.specs.declared.object.Body.TheVariants.{Struct, Numbers, Pointers, Structs}
use Rattle.capnp_layout.specs.declared.pointer.Elements.{Elements}
use Rattle.capnp_layout.specs.declared.pointer.StructSize.{StructSize}
use Rattle.capnp_layout.specs.declared.object.Object.{Object as ReadObject}
use Rattle.capnp_layout.proofs.words.DigitsToNumberAndBackLemmas.{length-digits}
use Rattle.capnp_layout.proofs.objects.SectionWordByIndexLemmas.{length-places}
use Rattle.capnp_wire.proofs.views.EnteredObjectShownLemmas.{entered_shown, entered_shows}
use Rattle.capnp_wire.proofs.views.RejectedExcludesAcceptedLemmas.{Decides, wrong_kind_once, wrong_kind_unlimited}

pub elements_decide : Decides TakesAsStructs ElementsFormError
elements_decide = record {
  apart = λ form kind form_errors. form_errors.0;
  once = λ form kind other p q. wrong_kind_once kind other p.1 q.1;
  unlimited = λ form kind form_errors. wrong_kind_unlimited kind form_errors.1;
}

elements_taken : (form : Form) (n p : ℕ) (elements : List (List ℕ)) → ReadsAsStructs form n p elements → TakesAsStructs form
elements_taken null n p elements t = tt
elements_taken (struct words) n p elements t = t
elements_taken (numbers code values) n p elements t = t.0
elements_taken pointers n p elements t = tt
elements_taken (structs d q there) n p elements t = tt

pub elements_accepted : (p : Pointer) (list : StructList) → IsUpgradedStructs p list → Accepts p TakesAsStructs
elements_accepted p list read =
    (read.shown.0, read.shown.1, elements_taken read.shown.0.form (length read.shown.0.children) list.pointer_words list.elements read.shown.2.0)

-- elements by how many bits they have
pub one_bit : (size : ElementSize) → width (code_of size) ≡ 1 → size ≡ Bit
one_bit Void is = absurd (omega arith)
one_bit Bit is = refl
one_bit Byte is = absurd (omega arith)
one_bit TwoBytes is = absurd (omega arith)
one_bit FourBytes is = absurd (omega arith)
one_bit EightBytes is = absurd (omega arith)

pub no_bit : (size : ElementSize) → width (code_of size) ≡ 0 → size ≡ Void
no_bit Void is = refl
no_bit Bit is = absurd (omega arith)
no_bit Byte is = absurd (omega arith)
no_bit TwoBytes is = absurd (omega arith)
no_bit FourBytes is = absurd (omega arith)
no_bit EightBytes is = absurd (omega arith)

pub other_than_bits : (size : ElementSize) → (width (code_of size) ≡ 1 → ⊥) → code_of size ≢ 1
other_than_bits Void other = λ (same : 0 ≡ 1). absurd (omega (arith, same))
other_than_bits Bit other = λ same. other refl
other_than_bits Byte other = λ (same : 2 ≡ 1). absurd (omega (arith, same))
other_than_bits TwoBytes other = λ (same : 3 ≡ 1). absurd (omega (arith, same))
other_than_bits FourBytes other = λ (same : 4 ≡ 1). absurd (omega (arith, same))
other_than_bits EightBytes other = λ (same : 5 ≡ 1). absurd (omega (arith, same))

-- a list of the object that was entered, by what the elements are
upgraded : (p : Pointer) (object : ReadObject) (list : StructList) → IsEntered p object → list.message ≡ p.message → list.nesting ≡ p.nesting - 1 → list.limit ≡ p.limit
    → (let shape = shape_of (words_of object.segment.now) object.start object.body in
    ReadsAsStructs shape.form (length shape.children) list.pointer_words list.elements × (list.children ≡ shape.children)) → IsUpgradedStructs p list
upgraded p object list entered message nesting limit reads =
    let shown = entered_shown p object (λ form children. ReadsAsStructs form (length children) list.pointer_words list.elements × (list.children ≡ children)) entered reads in
    record {
      same_message = message;
      shown = (shown.0, shown.1, (shown.2.0.0, shown.2.0.1, shown.2.1));
      nesting_below = nesting;
      same_limit = limit;
    }

-- structs
pub structs_upgraded : (p : Pointer) (object : ReadObject) (there : Elements) (following : ℕ) (list : StructList) → IsEntered p object → object.body ≡ Structs there following
    → list ≡ structs_in p object 1 there → IsUpgradedStructs p list
structs_upgraded p object there following list entered body is =
    let words = words_of object.segment.now in
    let wanted = structs_in p object 1 there in
    let fact : Body → Type 0 = λ b. let shape = shape_of words object.start b in
    ReadsAsStructs shape.form (length shape.children) wanted.pointer_words wanted.elements × (wanted.children ≡ shape.children) in
    subst (IsUpgradedStructs p) (sym is) (upgraded p object wanted entered refl refl refl (subst fact (sym body) ((refl, refl), refl)))

-- pointers, and elements of no bits, which have no data words
no_data : (words : List ℕ) (start p n : ℕ) → elements_from words start 0 p n ≡ replicate n []
no_data words start p zero = refl
no_data words start p (suc n) = ap (λ (elements : List (List ℕ)). [] ∷ elements) (no_data words (start + 0 + p) p n)

one_pointer_each : (segment start n : ℕ) → pointer_places segment start 0 1 n ≡ places segment start n
one_pointer_each segment start zero = refl
one_pointer_each segment start (suc n) =
    let same : start + 0 ≡ start = omega arith in
    rw same (ap (λ (l : List Place). record { segment = segment; word = start } ∷ l) (one_pointer_each segment (start + 1) n))

no_pointers : (segment start n : ℕ) → pointer_places segment start 0 0 n ≡ []
no_pointers segment start zero = refl
no_pointers segment start (suc n) = no_pointers segment (start + 0 + 0) n

nothing_each : (values : List ℕ) → replicate (length values) [] ≡ map (number_struct 0) values
nothing_each [] = refl
nothing_each (value ∷ values) = ap (λ (elements : List (List ℕ)). [] ∷ elements) (nothing_each values)

pub pointers_upgraded : (p : Pointer) (object : ReadObject) (n : ℕ) (there : Elements) (list : StructList) → IsEntered p object → object.body ≡ Pointers n → there ≡ elements_without_data 1 n
    → list ≡ structs_in p object 0 there → IsUpgradedStructs p list
pointers_upgraded p object n there list entered body there_is is =
    let words = words_of object.segment.now in
    let start = object.start in
    let wanted = structs_in p object 0 (elements_without_data 1 n) in
    let fact : Body → Type 0 = λ b. let shape = shape_of words start b in
    ReadsAsStructs shape.form (length shape.children) wanted.pointer_words wanted.elements × (wanted.children ≡ shape.children) in
    let first : start.word + 0 ≡ start.word = omega arith in
    let elements_are : wanted.elements ≡ replicate (length (places start.segment start.word n)) [] =
    no_data words (start.word + 0) 1 n ∙ ap (λ (k : ℕ). replicate k []) (length-places start.segment start.word n) in
    let children_are : wanted.children ≡ places start.segment start.word n =
    ap (λ (w : ℕ). pointer_places start.segment w 0 1 n) first ∙ one_pointer_each start.segment start.word n in
    subst (IsUpgradedStructs p) (sym (is ∙ ap (structs_in p object 0) there_is))
    (upgraded p object wanted entered refl refl refl (subst fact (sym body) ((refl, elements_are), children_are)))

pub nothings_upgraded : (p : Pointer) (object : ReadObject) (n : ℕ) (there : Elements) (list : StructList) → IsEntered p object → object.body ≡ Numbers Void n → there ≡ elements_without_data 0 n
    → list ≡ structs_in p object 0 there → IsUpgradedStructs p list
nothings_upgraded p object n there list entered body there_is is =
    let words = words_of object.segment.now in
    let start = object.start in
    let wanted = structs_in p object 0 (elements_without_data 0 n) in
    let fact : Body → Type 0 = λ b. let shape = shape_of words start b in
    ReadsAsStructs shape.form (length shape.children) wanted.pointer_words wanted.elements × (wanted.children ≡ shape.children) in
    let elements_are : wanted.elements ≡ map (number_struct 0) (elements words start.word 0 n) =
    no_data words (start.word + 0) 0 n
    ∙ ap (λ (k : ℕ). replicate k []) (sym (length-digits 1 n _))
    ∙ nothing_each (elements words start.word 0 n) in
    subst (IsUpgradedStructs p) (sym (is ∙ ap (structs_in p object 0) there_is))
    (upgraded p object wanted entered refl refl refl (subst fact (sym body) ((other_than_bits Void (λ (same : 0 ≡ 1). absurd (omega (arith, same))), refl, elements_are), no_pointers start.segment (start.word + 0) n)))

-- numbers
pub numbers_upgraded : (p : Pointer) (object : ReadObject) (size : ElementSize) (n : ℕ) (values : List ℕ) (list : StructList) → IsEntered p object → object.body ≡ Numbers size n
    → code_of size ≢ 1 → values ≡ elements (words_of object.segment.now) object.start.word (code_of size) n
    → list ≡ record {
      message = p.message;
      elements = map (number_struct (code_of size)) values;
      pointer_words = 0;
      children = [];
      nesting = p.nesting - 1;
      limit = p.limit;
    } → IsUpgradedStructs p list
numbers_upgraded p object size n values list entered body no_bits values_are is =
    let words = words_of object.segment.now in
    let there = elements words object.start.word (code_of size) n in
    let wanted : StructList = record {
      message = p.message;
      elements = map (number_struct (code_of size)) values;
      pointer_words = 0;
      children = [];
      nesting = p.nesting - 1;
      limit = p.limit;
    } in
    let fact : Body → Type 0 = λ b. let shape = shape_of words object.start b in
    ReadsAsStructs shape.form (length shape.children) wanted.pointer_words wanted.elements × (wanted.children ≡ shape.children) in
    subst (IsUpgradedStructs p) (sym is)
    (upgraded p object wanted entered refl refl refl (subst fact (sym body) ((no_bits, refl, ap (map (number_struct (code_of size))) values_are), refl)))

-- a struct, and bits
pub struct_form_error : (p : Pointer) (object : ReadObject) (size : StructSize) (kind : ErrorKind) → IsEntered p object → object.body ≡ Struct size → kind ≡ WrongPointerKind
    → ViewError p ElementsFormError kind
struct_form_error p object size kind entered body is =
    let words = words_of object.segment.now in
    let untaken : TakesAsStructs (form_of object) → ⊥ = subst (λ (b : Body). TakesAsStructs (shape_of words object.start b).form → ⊥) (sym body) (λ t. t) in
    inr (entered_shows p object (λ form. ElementsFormError form kind) entered (untaken, is))

pub bits_form_error : (p : Pointer) (object : ReadObject) (n : ℕ) (kind : ErrorKind) → IsEntered p object → object.body ≡ Numbers Bit n → kind ≡ WrongPointerKind → ViewError p ElementsFormError kind
bits_form_error p object n kind entered body is =
    let words = words_of object.segment.now in
    let untaken : TakesAsStructs (form_of object) → ⊥ = subst (λ (b : Body). TakesAsStructs (shape_of words object.start b).form → ⊥) (sym body) (λ t. t refl) in
    inr (entered_shows p object (λ form. ElementsFormError form kind) entered (untaken, is))

-- an element that was a number
pub some_element : (code value : ℕ) → 0 < code → number_struct code value ≡ value ∷ []
some_element zero value some = absurd (omega arith)
some_element (suc code) value some = refl

pub number_struct_at : (code i : ℕ) (values : List ℕ) → 0 < code → i < length (map (number_struct code) values)
    → slice_index_or values i 0 ∷ [] ≡ slice_index_or (map (number_struct code) values) i []
number_struct_at code i values some within =
    let fewer : i < length values = omega (arith, within, length-map values (number_struct code)) in
    sym (get_or-map (number_struct code) values i 0 [] fewer ∙ some_element code (slice_index_or values i 0) some)
