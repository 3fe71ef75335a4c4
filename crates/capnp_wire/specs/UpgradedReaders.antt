-- What contracts see of readers of upgraded lists (src/upgraded).
use Rattle.std.specs.Prelude.{ℕ, zero, suc, ◌+◌, ◌-◌, List, [], ◌∷◌, map}
use Rattle.capnp_frame.specs.declared.message.segments.ReaderSegments.{Ghosts as SegmentGhosts}
use Rattle.capnp_layout.specs.Prelude.{words_of, code_of, message_of, elements, elements_from}
use Rattle.capnp_wire.specs.Readers.{limit_of}
use Rattle.capnp_wire.specs.Views.{Pointer}
use Rattle.capnp_wire.specs.ListViews.{StructList, PointerList, struct_list_of}
use Rattle.capnp_wire.specs.NumberViews.{numbers_of}
use Rattle.capnp_wire.specs.UpgradedViews.{number_struct, first_fields}
use Rattle.capnp_layout.specs.declared.place.Place.{Place}
use Rattle.capnp_wire.specs.declared.primitive_element.PrimitiveElement.{Ghosts as ElementGhosts}
use Rattle.capnp_wire.specs.declared.primitive_list.reader.Reader.{Reader as NumbersReader}
use Rattle.capnp_wire.specs.declared.upgraded.number_structs.NumberStructs.{NumberStructs}
use Rattle.capnp_wire.specs.declared.upgraded.struct_list.StructElements.{StructElements}
use Rattle.capnp_wire.specs.declared.upgraded.struct_list.StructElements.TheVariants.{InPlace as StructsInPlace, Numbers as NumbersAsStructs}
use Rattle.capnp_wire.specs.declared.upgraded.struct_list.StructList.{StructList as StructListReader}
use Rattle.capnp_wire.specs.declared.upgraded.number_list.FirstFields.{FirstFields}
use Rattle.capnp_wire.specs.declared.upgraded.number_list.Numbers.{Numbers}
use Rattle.capnp_wire.specs.declared.upgraded.number_list.Numbers.TheVariants.{InPlace as NumbersInPlace, OfStructs}
use Rattle.capnp_wire.specs.declared.upgraded.number_list.NumberList.{NumberList as NumberListReader}
use Rattle.capnp_wire.specs.declared.upgraded.pointer_list.PointerList.{PointerList as PointerListReader}

-- numbers as structs, each of one data word
abbrev pub number_structs_of : {S : Type 0} {ghosts : SegmentGhosts S} → (S → List (List ℕ)) → NumberStructs S ghosts → StructList
number_structs_of segments numbers = record {
  message = message_of (segments numbers.segments.now);
  elements = map (number_struct (code_of numbers.size)) (elements (words_of numbers.bytes.now) 0 (code_of numbers.size) numbers.count);
  pointer_words = 0;
  children = [];
  nesting = numbers.nesting;
  limit = limit_of numbers.limiter;
}

abbrev pub struct_elements_of : {S : Type 0} {ghosts : SegmentGhosts S} → (S → List (List ℕ)) → StructElements S ghosts → StructList
struct_elements_of segments (StructsInPlace list) = struct_list_of segments list
struct_elements_of segments (NumbersAsStructs numbers) = number_structs_of segments numbers

abbrev pub upgraded_structs_of : {S : Type 0} {ghosts : SegmentGhosts S} → (S → List (List ℕ)) → StructListReader S ghosts → StructList
upgraded_structs_of segments list = struct_elements_of segments list.elements

-- the first fields of consecutive structs
abbrev pub fields_of : {T : Type 0} {ghosts : ElementGhosts T} → ℕ → FirstFields T ghosts → List ℕ
fields_of code list =
    first_fields code (elements_from (words_of list.segment.now) list.first list.size.data_words list.size.pointers list.count)

abbrev pub values_of : {T : Type 0} {ghosts : ElementGhosts T} → ℕ → Numbers (NumbersReader T ghosts) (FirstFields T ghosts) → List ℕ
values_of code (NumbersInPlace list) = numbers_of code list
values_of code (OfStructs list) = fields_of code list

abbrev pub upgraded_numbers_of : {T : Type 0} {ghosts : ElementGhosts T} → ℕ → NumberListReader T ghosts → List ℕ
upgraded_numbers_of code list = values_of code list.numbers

-- n places, each `step` words after the one before
abbrev pub stepped_places : ℕ → ℕ → ℕ → ℕ → List Place
stepped_places segment word step zero = []
stepped_places segment word step (suc n) = record { segment = segment; word = word } ∷ stepped_places segment (word + step) step n

abbrev pub upgraded_pointers_of : {S : Type 0} → (S → List (List ℕ)) → PointerListReader S → PointerList
upgraded_pointers_of segments list = record {
  message = message_of (segments list.segments.now);
  children = stepped_places list.first.segment list.first.word list.step list.count;
  nesting = list.nesting;
  limit = limit_of list.limiter;
}

-- pointers at this distance from one another, below the pointer that points to their list
abbrev pub pointers_from : Pointer → Place → ℕ → ℕ → PointerList
pointers_from pointer first step n = record {
  message = pointer.message;
  children = stepped_places first.segment first.word step n;
  nesting = pointer.nesting - 1;
  limit = pointer.limit;
}
