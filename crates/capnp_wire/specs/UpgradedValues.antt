-- Lists whose elements may have been written as another type, as values (src/upgraded/values.rt).
use Rattle.std.specs.Prelude.{◌≡◌, ◌⊎◌, ℕ, List}
use Rattle.std.proofs.Common.{ap}
use Rattle.capnp_frame.specs.declared.error.ErrorKind.{ErrorKind}
use Rattle.capnp_frame.specs.declared.error.ErrorKind.TheVariants.{WrongPointerKind}
use Rattle.capnp_frame.specs.declared.message.segments.ReaderSegments.{Ghosts as SegmentGhosts}
use Rattle.capnp_layout.specs.Prelude.{words_of, code_of, Trees, pointers, count, elements}
use Rattle.capnp_wire.specs.ListViews.{struct_list_of}
use Rattle.capnp_wire.specs.NumberViews.{numbers_of}
use Rattle.capnp_wire.specs.ListValues.{IsListTree, WalkErrorInList, structs_form, pointers_in, IsNumbersTree, TooManyNumbers}
use Rattle.capnp_wire.specs.UpgradedReaders.{upgraded_pointers_of}
use Rattle.capnp_wire.specs.declared.primitive_element.PrimitiveElement.{Ghosts as ElementGhosts}
use Rattle.capnp_wire.specs.declared.primitive_list.reader.Reader.{Reader as NumbersReader}
use Rattle.capnp_wire.specs.declared.upgraded.number_list.FirstFields.{FirstFields}
use Rattle.capnp_wire.specs.declared.upgraded.number_list.Numbers.{Numbers}
use Rattle.capnp_wire.specs.declared.upgraded.number_list.Numbers.TheVariants.{InPlace as NumbersInPlace, OfStructs}
use Rattle.capnp_wire.specs.declared.upgraded.number_list.NumberList.{NumberList as NumberListReader}
use Rattle.capnp_wire.specs.declared.upgraded.pointer_list.PointerList.{PointerList as PointerListReader}
use Rattle.capnp_wire.specs.declared.upgraded.number_structs.NumberStructs.{NumberStructs}
use Rattle.capnp_wire.specs.declared.upgraded.struct_list.StructElements.{StructElements}
use Rattle.capnp_wire.specs.declared.upgraded.struct_list.StructElements.TheVariants.{InPlace as StructsInPlace, Numbers as NumbersAsStructs}
use Rattle.capnp_wire.specs.declared.upgraded.struct_list.StructList.{StructList as StructListReader}

-- Numbers: the tree of a list of them, which fails where there are too many. First fields of structs
-- are no value, since the view doesn't know what else the structs have.
abbrev pub IsNumbersValue : {T : Type 0} {ghosts : ElementGhosts T} → ℕ → Numbers (NumbersReader T ghosts) (FirstFields T ghosts) → Trees → Type 0
IsNumbersValue code (NumbersInPlace list) trees = IsNumbersTree code (numbers_of code list) trees
IsNumbersValue code (OfStructs list) trees = ⊥

abbrev pub NumbersValueError : {T : Type 0} {ghosts : ElementGhosts T} → ℕ → Numbers (NumbersReader T ghosts) (FirstFields T ghosts) → ErrorKind → Type 0
NumbersValueError code (NumbersInPlace list) kind = TooManyNumbers code (numbers_of code list) kind
NumbersValueError code (OfStructs list) kind = kind ≡ WrongPointerKind

abbrev pub IsNumberListValue : {T : Type 0} {ghosts : ElementGhosts T} → ℕ → NumberListReader T ghosts → Trees → Type 0
IsNumberListValue code list trees = IsNumbersValue code list.numbers trees

abbrev pub NumberListValueError : {T : Type 0} {ghosts : ElementGhosts T} → ℕ → NumberListReader T ghosts → ErrorKind → Type 0
NumberListValueError code list kind = NumbersValueError code list.numbers kind

-- the numbers that are read as structs
abbrev pub numbers_in_structs : {S : Type 0} {ghosts : SegmentGhosts S} → NumberStructs S ghosts → List ℕ
numbers_in_structs numbers = elements (words_of numbers.bytes.now) 0 (code_of numbers.size) numbers.count

-- Structs: the tree of a list of them, with all below them. A list of numbers that is read as a list
-- of structs stays a list of numbers.
abbrev pub IsElementsValue : {S : Type 0} {ghosts : SegmentGhosts S} → (S → List (List ℕ)) → StructElements S ghosts → Trees → Type 0
IsElementsValue segments (StructsInPlace list) trees = IsListTree (structs_form segments list) (pointers_in (struct_list_of segments list)) trees
IsElementsValue segments (NumbersAsStructs numbers) trees = IsNumbersTree (code_of numbers.size) (numbers_in_structs numbers) trees

abbrev pub ElementsValueError : {S : Type 0} {ghosts : SegmentGhosts S} → (S → List (List ℕ)) → StructElements S ghosts → ErrorKind → Type 0
ElementsValueError segments (StructsInPlace list) kind = WalkErrorInList (pointers_in (struct_list_of segments list)) kind
ElementsValueError segments (NumbersAsStructs numbers) kind = TooManyNumbers (code_of numbers.size) (numbers_in_structs numbers) kind

abbrev pub IsStructListValue : {S : Type 0} {ghosts : SegmentGhosts S} → (S → List (List ℕ)) → StructListReader S ghosts → Trees → Type 0
IsStructListValue segments list trees = IsElementsValue segments list.elements trees

abbrev pub StructListValueError : {S : Type 0} {ghosts : SegmentGhosts S} → (S → List (List ℕ)) → StructListReader S ghosts → ErrorKind → Type 0
StructListValueError segments list kind = ElementsValueError segments list.elements kind

-- pointers that follow one another: of a list of pointers, or of structs of one pointer each
abbrev pub IsConsecutive : {S : Type 0} → PointerListReader S → Type 0
IsConsecutive list = (list.count ≡ 0) ⊎ (list.step ≡ 1)

-- Pointers: the tree of a list of them, with all below them. First pointers of larger structs are
-- no value, since the view doesn't know what else the structs have.
abbrev pub IsPointerListValue : {S : Type 0} → (S → List (List ℕ)) → PointerListReader S → Trees → Type 0
IsPointerListValue segments list trees = IsConsecutive list × IsListTree pointers (upgraded_pointers_of segments list) trees

abbrev pub PointerListValueError : {S : Type 0} → (S → List (List ℕ)) → PointerListReader S → ErrorKind → Type 0
PointerListValueError segments list kind =
    (IsConsecutive list × WalkErrorInList (upgraded_pointers_of segments list) kind)
    ⊎ ((IsConsecutive list → ⊥) × (kind ≡ WrongPointerKind))

-- each of these values is one tree
one_of_numbers : {T : Type 0} {ghosts : ElementGhosts T} (code : ℕ) (numbers : Numbers (NumbersReader T ghosts) (FirstFields T ghosts)) (trees : Trees) → IsNumbersValue code numbers trees → count trees ≡ 1
one_of_numbers code (NumbersInPlace list) trees is = ap count is.1
one_of_numbers code (OfStructs list) trees is = absurd is

pub one_number_list : {T : Type 0} {ghosts : ElementGhosts T} (code : ℕ) (list : NumberListReader T ghosts) (trees : Trees) → IsNumberListValue code list trees → count trees ≡ 1
one_number_list code list trees is = one_of_numbers code list.numbers trees is

one_of_elements : {S : Type 0} {ghosts : SegmentGhosts S} (segments : S → List (List ℕ)) (elements : StructElements S ghosts) (trees : Trees) → IsElementsValue segments elements trees → count trees ≡ 1
one_of_elements segments (StructsInPlace list) trees is = ap count is.whole
one_of_elements segments (NumbersAsStructs numbers) trees is = ap count is.1

pub one_struct_list : {S : Type 0} {ghosts : SegmentGhosts S} (segments : S → List (List ℕ)) (list : StructListReader S ghosts) (trees : Trees) → IsStructListValue segments list trees → count trees ≡ 1
one_struct_list segments list trees is = one_of_elements segments list.elements trees is
