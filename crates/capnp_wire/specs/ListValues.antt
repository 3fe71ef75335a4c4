-- Lists that are read, as values (src/layout/list_value.rt, src/layout/struct_list_value.rt).
use Rattle.std.specs.Prelude.{◌≡◌, ℕ, ◌-◌, ◌^◌, ◌<◌, ◌≤◌, min, List, length, Option}
use Rattle.capnp_frame.specs.declared.error.ErrorKind.{ErrorKind}
use Rattle.capnp_frame.specs.declared.error.ErrorKind.TheVariants.{AllocationTooLarge}
use Rattle.capnp_frame.specs.declared.message.segments.ReaderSegments.{Ghosts}
use Rattle.capnp_layout.specs.Prelude.{width, words_for, Form, numbers, structs, Trees, none, tree, depth, places, pointer_places, elements_from, At, Within, WalkError}
use Rattle.capnp_wire.specs.ListViews.{PointerList, StructList, struct_list_of}
use Rattle.capnp_layout.specs.declared.place.Place.{Place}
use Rattle.capnp_layout.specs.declared.pointer.Elements.{Elements}
use Rattle.capnp_wire.specs.declared.struct_list.reader.Reader.{Reader as StructListReader}

-- the tree of a list of this form whose pointers are read, within the nesting depth left and the
-- list's limit
pub record IsListTree (form : Form) (list : PointerList) (trees : Trees) : Type 0 where
  pub children : Trees
  pub traversed : ℕ
  pub are_at : At list.message list.children children traversed
  pub shallow : depth children ≤ list.nesting
  pub within : Within list.limit traversed
  pub whole : trees ≡ tree form children none

-- where a walk over its pointers stops
abbrev pub WalkErrorInList : PointerList → ErrorKind → Type 0
WalkErrorInList list kind = WalkError list.message list.children list.nesting list.limit kind

-- consecutive pointers from a place on
abbrev pub pointers_along : List (List ℕ) → Place → ℕ → ℕ → Option ℕ → PointerList
pointers_along m first n nesting limit =
    record { message = m; children = places first.segment first.word n; nesting = nesting; limit = limit }

-- consecutive structs, and the pointers of them all
abbrev pub structs_along : List ℕ → Place → Elements → Form
structs_along words first elements =
    let size = elements.size in structs size.data_words size.pointers (elements_from words first.word size.data_words size.pointers elements.count)

abbrev pub pointers_of_structs : List (List ℕ) → Place → Elements → ℕ → Option ℕ → PointerList
pointers_of_structs m first elements nesting limit =
    let size = elements.size in record {
      message = m;
      children = pointer_places first.segment first.word size.data_words size.pointers elements.count;
      nesting = nesting;
      limit = limit;
    }

-- the pointers of a list of structs, in the order of the elements
abbrev pub pointers_in : StructList → PointerList
pointers_in list = record { message = list.message; children = list.children; nesting = list.nesting; limit = list.limit }

-- the list of structs of a reader, also where it has no element that would say how many words of
-- data each has
abbrev pub structs_form : {S : Type 0} {ghosts : Ghosts S} → (S → List (List ℕ)) → StructListReader S ghosts → Form
structs_form segments reader =
    let list = struct_list_of segments reader in structs reader.elements.size.data_words list.pointer_words list.elements

-- the tree of a list of numbers of this code, and the error of more numbers than a list may have
abbrev pub IsNumbersTree : ℕ → List ℕ → Trees → Type 0
IsNumbersTree code values trees = (length values < 2 ^ 29) × (trees ≡ tree (numbers code values) none none)

abbrev pub TooManyNumbers : ℕ → List ℕ → ErrorKind → Type 0
TooManyNumbers code values kind =
    (2 ^ 29 ≤ length values) × (kind ≡ AllocationTooLarge (min (words_for (length values) (width code)) (2 ^ 32 - 1)))
