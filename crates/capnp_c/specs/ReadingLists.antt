-- What the lists mean that C keeps (src/reading/list.rt), and what the exports that read them return.
use Rattle.std.specs.Prelude.{◌≡◌, ℕ, zero, suc, ◌+◌, ◌*◌, ◌/◌, ◌%◌, ◌^◌, ◌<◌, ◌≤◌, ◌⊎◌, List, [], ◌∷◌, ◌++◌, Option, drop, length, take, slice_get, slice_index_or, MatchOption}
use Rattle.capnp_frame.specs.declared.error.ErrorKind.{ErrorKind}
use Rattle.capnp_frame.specs.declared.error.ErrorKind.TheVariants.{WrongPointerKind}
use Rattle.capnp_layout.specs.Prelude.{Form, number_of, code_of, width, places}
use Rattle.capnp_layout.specs.declared.place.Place.{Place}
use Rattle.capnp_wire.specs.Prelude.{Pointer, Reads, StructList, PointerList, element_of, stepped_places, IsUpgradedPointers, IsUpgradedStructs, ReadsAsNumbers, TakesFields, TakesFirstPointers, TakesAsStructs}
use Rattle.capnp_wire.specs.ListViews.{pointer_at}
use Rattle.capnp_c.specs.Reading.{words_at, struct_by, pointer_by}
use Rattle.capnp_c.specs.ReadingExports.{Follows, no_place, no_struct}
use Rattle.capnp_c.specs.declared.reading.element_kind.ElementKind.{ElementKind}
use Rattle.capnp_c.specs.declared.reading.element_kind.ElementKind.TheVariants.{Numbers, Pointers, Structs}
use Rattle.capnp_c.specs.declared.reading.element_kind.TheConstants.{ELEMENT_KINDS}
use Rattle.capnp_c.specs.declared.reading.list.LinsjoarList.{LinsjoarList}
use Rattle.capnp_c.specs.declared.reading.place.LinsjoarPlace.{LinsjoarPlace}
use Rattle.capnp_c.specs.declared.reading.reader.LinsjoarReader.{LinsjoarReader}
use Rattle.capnp_c.specs.declared.reading.structs.LinsjoarStruct.{LinsjoarStruct}

-- the word of the eight bytes from a byte on, or of those that are there
abbrev pub word_from : List ℕ → ℕ → ℕ
word_from bytes at = number_of 256 (take 8 (drop at bytes))

-- The number of a code that is a given number of bits after a byte, in the word that has its first bit.
abbrev pub number_at : List ℕ → ℕ → ℕ → ℕ → ℕ
number_at bytes start bits code = word_from bytes (start + 8 * (bits / 64)) / 2 ^ (bits % 64) % 2 ^ width code

-- n numbers, each `step` bits after the one before
abbrev pub numbers_along : List ℕ → ℕ → ℕ → ℕ → ℕ → ℕ → List ℕ
numbers_along bytes start bits step code zero = []
numbers_along bytes start bits step code (suc n) = number_at bytes start bits code ∷ numbers_along bytes start (bits + step) step code n

-- the data words of n structs of `len` bytes, each `step` bytes after the one before
abbrev pub data_along : List ℕ → ℕ → ℕ → ℕ → ℕ → List (List ℕ)
data_along bytes start step len zero = []
data_along bytes start step len (suc n) = words_at bytes start len ∷ data_along bytes (start + step) step len n

-- the places of the p pointers of each of n structs, each `step` words after the one before
abbrev pub pointers_along : ℕ → ℕ → ℕ → ℕ → ℕ → List Place
pointers_along segment word step p zero = []
pointers_along segment word step p (suc n) = places segment word p ++ pointers_along segment (word + step) step p n

-- a list that is read as numbers of a code
abbrev pub numbers_in : ℕ → List ℕ → LinsjoarList → List ℕ
numbers_in code bytes list = numbers_along bytes list.start 0 list.step code list.count

-- as pointers
abbrev pub pointers_by : List (List ℕ) → Option ℕ → LinsjoarList → PointerList
pointers_by message limit list = record {
  message = message;
  children = stepped_places list.first.segment list.first.word (list.step / 64) list.count;
  nesting = list.first.nesting;
  limit = limit;
}

-- as structs
abbrev pub structs_by : List (List ℕ) → Option ℕ → List ℕ → LinsjoarList → StructList
structs_by message limit bytes list = record {
  message = message;
  elements = data_along bytes list.start (list.step / 8) list.data_len list.count;
  pointer_words = list.pointers;
  children = pointers_along list.first.segment list.first.word (list.step / 64) list.pointers list.count;
  nesting = list.first.nesting;
  limit = limit;
}

-- the word of each number lies within the bytes; numbers of no bits have none
abbrev pub NumbersWithin : ℕ → LinsjoarList → List ℕ → Type 0
NumbersWithin code list bytes = (index : ℕ) → index < list.count → 0 < width code → list.start + 8 * (index * list.step / 64) + 8 ≤ length bytes

-- and so do the data of each struct
abbrev pub StructsWithin : LinsjoarList → List ℕ → Type 0
StructsWithin list bytes = (index : ℕ) → index < list.count → list.start + index * (list.step / 8) + list.data_len ≤ length bytes

-- a list is read as elements of this kind: which objects are, what is shown of them, and the error of others
abbrev pub TakesList : ElementKind → Form → Type 0
TakesList (Numbers size) form = TakesFields (code_of size) form
TakesList Pointers form = TakesFirstPointers form
TakesList Structs form = TakesAsStructs form

abbrev pub ShowsList : ElementKind → Pointer → List ℕ → LinsjoarList → Type 0
ShowsList (Numbers size) pointer bytes list = Reads pointer (λ form. ReadsAsNumbers (code_of size) form (numbers_in (code_of size) bytes list))
    × NumbersWithin (code_of size) list bytes
ShowsList Pointers pointer bytes list = IsUpgradedPointers pointer (pointers_by pointer.message pointer.limit list)
ShowsList Structs pointer bytes list = IsUpgradedStructs pointer (structs_by pointer.message pointer.limit bytes list) × StructsWithin list bytes

abbrev pub ListFormError : ElementKind → Form → ErrorKind → Type 0
ListFormError kind form error = (TakesList kind form → ⊥) × (error ≡ WrongPointerKind)

-- the list of no elements, as where a call fails
abbrev pub no_list : LinsjoarList
no_list = record { start = 0; first = no_place; count = 0; step = 0; data_len = 0; pointers = 0; code = 0 }

-- A list is read as elements of a kind; where no kind has the code, nothing is.
abbrev pub FollowsKind : Option ElementKind → LinsjoarReader → LinsjoarReader → List ℕ → LinsjoarPlace → ℕ → LinsjoarList → ℕ → Type 0
FollowsKind wanted old new bytes place code list result = MatchOption wanted
    ((result ≡ 27) × (new ≡ old) × (list ≡ no_list))
    (λ kind. Follows old new bytes place (λ pointer. ShowsList kind pointer bytes list × (list.code ≡ code))
    (TakesList kind) (ListFormError kind) (list ≡ no_list) result)

abbrev pub FollowsList : LinsjoarReader → LinsjoarReader → List ℕ → LinsjoarPlace → ℕ → LinsjoarList → ℕ → Type 0
FollowsList old new bytes place code list result = FollowsKind (slice_get ELEMENT_KINDS code) old new bytes place code list result

-- An element of a list of numbers is read: 0 past the last one. It fails where the list is of another kind,
-- or the element's word is not whole; elements of no bits have no word.
pub record ReadsNumber (bytes : List ℕ) (list : LinsjoarList) (index number result : ℕ) : Type 0 where
  pub found : result ≡ 0 → (list.code < 6) × (number ≡ slice_index_or (numbers_in list.code bytes list) index 0)
  pub accepted : list.code < 6 → (list.count ≤ index) ⊎ (list.code ≡ 0) ⊎ (list.start + 8 * (index * list.step / 64) + 8 ≤ length bytes) → result ≡ 0
  pub other : 6 ≤ list.code → result ≡ 27
  pub outside : index < list.count → 0 < list.code → length bytes < list.start + 8 * (index * list.step / 64) + 8 → result ≡ 27
  pub stays : 0 < result → number ≡ 0

-- An element of a list of structs is found: no data and no pointers past the last one.
pub record FindsStruct (list : LinsjoarList) (index : ℕ) (fields : LinsjoarStruct) (result : ℕ) : Type 0 where
  pub found : result ≡ 0 → (list.code ≡ 7) × ((message : List (List ℕ)) (limit : Option ℕ) (bytes : List ℕ) →
      struct_by message limit bytes fields ≡ element_of (structs_by message limit bytes list) index)
  pub accepted : list.code ≡ 7 → (list.count ≤ index)
      ⊎ ((list.start + index * (list.step / 8) < 2 ^ 64) × (list.first.word + index * (list.step / 64) < 2 ^ 64)) → result ≡ 0
  pub within : result ≡ 0 → (bytes : List ℕ) → StructsWithin list bytes → fields.start + fields.data_len ≤ length bytes
  pub other : (list.code ≡ 7 → ⊥) → result ≡ 27
  pub outside : index < list.count → (2 ^ 64 ≤ list.start + index * (list.step / 8)) ⊎ (2 ^ 64 ≤ list.first.word + index * (list.step / 64)) → result ≡ 27
  pub stays : 0 < result → fields ≡ no_struct

-- An element of a list of pointers is found: no pointer past the last one.
pub record FindsElement (list : LinsjoarList) (index : ℕ) (place : LinsjoarPlace) (result : ℕ) : Type 0 where
  pub found : result ≡ 0 → (list.code ≡ 6) × ((message : List (List ℕ)) (limit : Option ℕ) →
      pointer_by message limit place ≡ pointer_at (pointers_by message limit list) index)
  pub accepted : list.code ≡ 6 → (list.count ≤ index) ⊎ (list.first.word + index * (list.step / 64) < 2 ^ 64) → result ≡ 0
  pub other : (list.code ≡ 6 → ⊥) → result ≡ 27
  pub outside : index < list.count → 2 ^ 64 ≤ list.first.word + index * (list.step / 64) → result ≡ 27
  pub stays : 0 < result → place ≡ no_place
