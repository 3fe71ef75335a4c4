-- What views show of lists whose elements were numbers or pointers before they became structs, or
-- the other way round (src/upgraded). Encoding document, "Lists": a list whose elements are not
-- bits may be read as a list of structs that have the elements as their first fields. A list of
-- structs may be read as a list of its first fields.
use Rattle.std.specs.Prelude.{◌≡◌, ◌≢◌, ℕ, zero, suc, ◌-◌, ◌*◌, ◌%◌, ◌^◌, ◌<◌, ◌≤◌, ⊤, List, [], ◌∷◌, ◌++◌, length, map, take, drop, replicate, slice_index}
use Rattle.capnp_frame.specs.declared.error.ErrorKind.{ErrorKind}
use Rattle.capnp_frame.specs.declared.error.ErrorKind.TheVariants.{WrongPointerKind}
use Rattle.capnp_layout.specs.Prelude.{width, Form, null, numbers, pointers, structs, Within}
use Rattle.capnp_wire.specs.Views.{Pointer, Shows}
use Rattle.capnp_wire.specs.ListViews.{StructList, PointerList}
use Rattle.capnp_layout.specs.declared.place.Place.{Place}
use Rattle.capnp_layout.specs.declared.pointer.Elements.{Elements}

-- the data words of a struct that was a number: the number's word alone, or none where an element
-- has no bits
abbrev pub number_struct : ℕ → ℕ → List ℕ
number_struct zero value = []
number_struct (suc code) value = value ∷ []

-- Structs: the data words of each, and how many pointers each has. None for null; the elements of a
-- list of structs; numbers, each in the low bits of one data word; pointers, each as the one pointer
-- of a struct.
abbrev pub ReadsAsStructs : Form → ℕ → ℕ → List (List ℕ) → Type 0
ReadsAsStructs null n p elements = elements ≡ []
ReadsAsStructs (structs d q there) n p elements = (p ≡ q) × (elements ≡ there)
ReadsAsStructs (numbers code values) n p elements = (code ≢ 1) × (p ≡ 0) × (elements ≡ map (number_struct code) values)
ReadsAsStructs pointers n p elements = (p ≡ 1) × (elements ≡ replicate n [])
ReadsAsStructs _ n p elements = ⊥

-- the forms that are read as structs, and the errors of the others: structs and bits
abbrev pub TakesAsStructs : Form → Type 0
TakesAsStructs null = ⊤
TakesAsStructs (structs d p elements) = ⊤
TakesAsStructs (numbers code values) = code ≢ 1
TakesAsStructs pointers = ⊤
TakesAsStructs _ = ⊥

abbrev pub ElementsFormError : Form → ErrorKind → Type 0
ElementsFormError form kind = (TakesAsStructs form → ⊥) × (kind ≡ WrongPointerKind)

-- a list read as a list of structs: the elements that are there, with one less of nesting depth left
pub record IsUpgradedStructs (pointer : Pointer) (list : StructList) : Type 0 where
  pub same_message : list.message ≡ pointer.message
  pub shown : Shows pointer (λ shape. ReadsAsStructs shape.form (length shape.children) list.pointer_words list.elements
      × (list.children ≡ shape.children) × Within pointer.limit shape.traversed)
  pub nesting_below : list.nesting ≡ pointer.nesting - 1
  pub same_limit : list.limit ≡ pointer.limit

-- structs of no data words, each with this many pointers
abbrev pub elements_without_data : ℕ → ℕ → Elements
elements_without_data p n = record { size = record { data_words = 0; pointers = p }; count = n }

-- elements of this code can be the first fields of structs of d data words: they are not bits, and
-- fit these words
pub record IsFirstField (code d : ℕ) : Type 0 where
  pub no_bits : code ≢ 1
  pub inside : width code ≤ 64 * d

-- the low bits of the first data word of each struct
abbrev pub first_fields : ℕ → List (List ℕ) → List ℕ
first_fields code elements = map (λ element. slice_index element 0 % 2 ^ width code) elements

-- Numbers of a code: none for null, the elements of a list of this code, the first fields of structs.
abbrev pub ReadsAsNumbers : ℕ → Form → List ℕ → Type 0
ReadsAsNumbers wanted null values = values ≡ []
ReadsAsNumbers wanted (numbers code there) values = (code ≡ wanted) × (values ≡ there)
ReadsAsNumbers wanted (structs d p elements) values = IsFirstField wanted d × (values ≡ first_fields wanted elements)
ReadsAsNumbers wanted _ values = ⊥

abbrev pub TakesFields : ℕ → Form → Type 0
TakesFields wanted null = ⊤
TakesFields wanted (numbers code values) = code ≡ wanted
TakesFields wanted (structs d p elements) = IsFirstField wanted d
TakesFields wanted _ = ⊥

abbrev pub FieldsFormError : ℕ → Form → ErrorKind → Type 0
FieldsFormError wanted form kind = (TakesFields wanted form → ⊥) × (kind ≡ WrongPointerKind)

-- the first pointer of each of n structs of p pointers
abbrev pub first_pointers : ℕ → ℕ → List Place → List Place
first_pointers p zero children = []
first_pointers p (suc n) children = take 1 children ++ first_pointers p n (drop p children)

-- Pointers: none for null, the elements of a list of pointers, the first pointers of structs.
abbrev pub ReadsAsPointers : Form → List Place → List Place → Type 0
ReadsAsPointers null children places = places ≡ []
ReadsAsPointers pointers children places = places ≡ children
ReadsAsPointers (structs d p elements) children places = (0 < p) × (places ≡ first_pointers p (length elements) children)
ReadsAsPointers _ children places = ⊥

abbrev pub TakesFirstPointers : Form → Type 0
TakesFirstPointers null = ⊤
TakesFirstPointers pointers = ⊤
TakesFirstPointers (structs d p elements) = 0 < p
TakesFirstPointers _ = ⊥

abbrev pub FirstPointersFormError : Form → ErrorKind → Type 0
FirstPointersFormError form kind = (TakesFirstPointers form → ⊥) × (kind ≡ WrongPointerKind)

-- a list read as a list of pointers, with one less of nesting depth left
pub record IsUpgradedPointers (pointer : Pointer) (list : PointerList) : Type 0 where
  pub same_message : list.message ≡ pointer.message
  pub shown : Shows pointer (λ shape. ReadsAsPointers shape.form shape.children list.children × Within pointer.limit shape.traversed)
  pub nesting_below : list.nesting ≡ pointer.nesting - 1
  pub same_limit : list.limit ≡ pointer.limit
