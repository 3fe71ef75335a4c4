-- What the views of lists of structs and of lists of pointers show (src/struct_list,
-- src/any_pointer_list).
use Rattle.std.specs.Prelude.{◌≡◌, ℕ, ◌+◌, ◌-◌, ◌*◌, ⊤, List, [], Option, take, drop, slice_get, slice_index_or}
use Rattle.capnp_frame.specs.declared.error.ErrorKind.{ErrorKind}
use Rattle.capnp_frame.specs.declared.error.ErrorKind.TheVariants.{WrongPointerKind}
use Rattle.capnp_frame.specs.declared.message.segments.ReaderSegments.{Ghosts}
use Rattle.capnp_layout.specs.Prelude.{words_of, Form, null, pointers, structs, message_of, places, pointer_places, elements_from, Within}
use Rattle.capnp_wire.specs.Readers.{limit_of}
use Rattle.capnp_wire.specs.Views.{Pointer, Struct, Shows}
use Rattle.capnp_layout.specs.declared.place.Place.{Place}
use Rattle.capnp_layout.specs.declared.pointer.Elements.{Elements}
use Rattle.capnp_layout.specs.declared.object.Object.{Object as ReadObject}
use Rattle.capnp_wire.specs.declared.struct_list.reader.Reader.{Reader as StructListReader}
use Rattle.capnp_wire.specs.declared.any_pointer_list.reader.Reader.{Reader as PointerListReader}

-- A list of structs that is read: the message, the data words of each element, how many pointers
-- each has, and the places of the pointers of all, in the order of the elements. It also has the
-- nesting depth left at the pointers, and the limit of words that are read.
pub record StructList : Type 0 where
  pub message : List (List ℕ)
  pub elements : List (List ℕ)
  pub pointer_words : ℕ
  pub children : List Place
  pub nesting : ℕ
  pub limit : Option ℕ

-- no elements for null, the elements of a list of structs
abbrev pub HasElements : Form → ℕ → List (List ℕ) → Type 0
HasElements null p elements = elements ≡ []
HasElements (structs d q there) p elements = (p ≡ q) × (elements ≡ there)
HasElements _ p elements = ⊥

-- a list of structs: the elements that are there, with one less of nesting depth left
pub record IsStructList (pointer : Pointer) (list : StructList) : Type 0 where
  pub same_message : list.message ≡ pointer.message
  pub shown : Shows pointer (λ shape. HasElements shape.form list.pointer_words list.elements × (list.children ≡ shape.children)
      × Within pointer.limit shape.traversed)
  pub nesting_below : list.nesting ≡ pointer.nesting - 1
  pub same_limit : list.limit ≡ pointer.limit

-- an element: its data words, and its pointers, which follow the pointers of the elements before it
abbrev pub element_of : StructList → ℕ → Struct
element_of list index = record {
  message = list.message;
  words = slice_index_or list.elements index [];
  children = take list.pointer_words (drop (index * list.pointer_words) list.children);
  nesting = list.nesting;
  limit = list.limit;
}

-- A list of pointers that is read: the message, the places of the pointers, the nesting depth left at
-- them, and the limit of words that are read.
pub record PointerList : Type 0 where
  pub message : List (List ℕ)
  pub children : List Place
  pub nesting : ℕ
  pub limit : Option ℕ

-- the forms that views of lists of structs, and of pointers, accept
abbrev pub TakesStructs : Form → Type 0
TakesStructs null = ⊤
TakesStructs (structs d p elements) = ⊤
TakesStructs _ = ⊥

abbrev pub TakesPointers : Form → Type 0
TakesPointers null = ⊤
TakesPointers pointers = ⊤
TakesPointers _ = ⊥

-- a list of pointers: none for null, the pointers that are there, with one less of nesting depth left
pub record IsPointerList (pointer : Pointer) (list : PointerList) : Type 0 where
  pub same_message : list.message ≡ pointer.message
  pub shown : Shows pointer (λ shape. TakesPointers shape.form × (list.children ≡ shape.children) × Within pointer.limit shape.traversed)
  pub nesting_below : list.nesting ≡ pointer.nesting - 1
  pub same_limit : list.limit ≡ pointer.limit

-- one of its pointers
abbrev pub pointer_at : PointerList → ℕ → Pointer
pointer_at list index = record { message = list.message; place = slice_get list.children index; nesting = list.nesting; limit = list.limit }

-- the error for a form that isn't a list of structs
abbrev pub StructsFormError : Form → ErrorKind → Type 0
StructsFormError form kind = (TakesStructs form → ⊥) × (kind ≡ WrongPointerKind)

abbrev pub PointersFormError : Form → ErrorKind → Type 0
PointersFormError form kind = (TakesPointers form → ⊥) × (kind ≡ WrongPointerKind)

-- what contracts see of the readers
abbrev pub struct_list_of : {S : Type 0} {ghosts : Ghosts S} → (S → List (List ℕ)) → StructListReader S ghosts → StructList
struct_list_of segments reader =
    let size = reader.elements.size in record {
      message = message_of (segments reader.segments.now);
      elements = elements_from (words_of reader.segment.now) reader.first.word size.data_words size.pointers reader.elements.count;
      pointer_words = size.pointers;
      children = pointer_places reader.first.segment reader.first.word size.data_words size.pointers reader.elements.count;
      nesting = reader.nesting;
      limit = limit_of reader.limiter;
    }

-- no structs, as for null, and the structs in an object, after some of its words
abbrev pub no_structs : Pointer → StructList
no_structs pointer = record {
  message = pointer.message;
  elements = [];
  pointer_words = 0;
  children = [];
  nesting = pointer.nesting - 1;
  limit = pointer.limit;
}

abbrev pub structs_in : Pointer → ReadObject → ℕ → Elements → StructList
structs_in pointer object skipped elements =
    let size = elements.size in
    let first = object.start.word + skipped in record {
      message = pointer.message;
      elements = elements_from (words_of object.segment.now) first size.data_words size.pointers elements.count;
      pointer_words = size.pointers;
      children = pointer_places object.start.segment first size.data_words size.pointers elements.count;
      nesting = pointer.nesting - 1;
      limit = pointer.limit;
    }

abbrev pub pointer_list_of : {S : Type 0} → (S → List (List ℕ)) → PointerListReader S → PointerList
pointer_list_of segments reader = record {
  message = message_of (segments reader.segments.now);
  children = places reader.first.segment reader.first.word reader.count;
  nesting = reader.nesting;
  limit = limit_of reader.limiter;
}
