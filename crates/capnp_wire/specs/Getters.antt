-- What getters of structs return, one abbreviation for each kind of view (crates/capnpc_rattle).
use Rattle.std.specs.Prelude.{ℕ, List, Result}
use denote.Ref.{Bor}
use Rattle.capnp_frame.specs.declared.error.Error.{Error}
use Rattle.capnp_frame.specs.declared.error.ErrorKind.{ErrorKind}
use Rattle.capnp_frame.specs.declared.message.segments.ReaderSegments.{Ghosts as SegmentGhosts}
use Rattle.capnp_layout.specs.Prelude.{Form}
use Rattle.capnp_wire.specs.Constants.{IsDefaultData}
use Rattle.capnp_wire.specs.Views.{Pointer, Struct, IsViewOf, IsStruct, IsText, IsData, Reads, Accepts, ViewError, FormError, TakesText, TakesNumbers, TakesStruct, TextFormError, NumbersFormError, StructFormError}
use Rattle.capnp_wire.specs.UpgradedViews.{IsUpgradedStructs, IsUpgradedPointers, ReadsAsNumbers, TakesAsStructs, TakesFields, TakesFirstPointers, ElementsFormError, FieldsFormError, FirstPointersFormError}
use Rattle.capnp_wire.specs.UpgradedReaders.{upgraded_structs_of, upgraded_numbers_of, upgraded_pointers_of}
use Rattle.capnp_wire.specs.declared.primitive_element.PrimitiveElement.{Ghosts as ElementGhosts}
use Rattle.capnp_wire.specs.declared.text.reader.Reader.{Reader as TextReader}
use Rattle.capnp_wire.specs.declared.upgraded.enum_list.EnumList.{EnumList}
use Rattle.capnp_wire.specs.declared.upgraded.list_list.ListList.{ListList}
use Rattle.capnp_wire.specs.declared.upgraded.number_list.NumberList.{NumberList}
use Rattle.capnp_wire.specs.declared.upgraded.structs.Structs.{Structs}

-- a view that accepts some forms, and rejects the others by these errors
abbrev pub IsViewBy : {V : Type 0} → Pointer → (Form → Type 0) → (Form → ErrorKind → Type 0) → (V → Type 0) → Result V Error → Type 0
IsViewBy pointer takes form_error shows result =
    IsViewOf pointer shows (Accepts pointer takes) (ViewError pointer form_error) (FormError pointer form_error) result

-- a text, with the bytes of what the pointer points to
abbrev pub IsTextView : Pointer → Result TextReader Error → Type 0
IsTextView pointer result = IsViewBy pointer TakesText TextFormError (λ view. Reads pointer (λ form. IsText form view.bytes.now)) result

-- data, with its bytes
abbrev pub IsDataView : Pointer → Result (Bor (List ℕ)) Error → Type 0
IsDataView pointer result = IsViewBy pointer (TakesNumbers 2) (NumbersFormError 2) (λ view. Reads pointer (λ form. IsData form view.now)) result

-- a reader of a struct, with its fields
abbrev pub IsStructView : {V : Type 0} → Pointer → (V → Struct) → Result V Error → Type 0
IsStructView pointer shown result = IsViewBy pointer TakesStruct StructFormError (λ view. IsStruct pointer (shown view)) result

-- a list of structs, with its elements
abbrev pub IsStructsView : {S T : Type 0} {ghosts : SegmentGhosts S} → (S → List (List ℕ)) → Pointer → Result (Structs S T ghosts) Error → Type 0
IsStructsView segments pointer result =
    IsViewBy pointer TakesAsStructs ElementsFormError (λ view. IsUpgradedStructs pointer (upgraded_structs_of segments view.elements)) result

-- a reader of a struct by a default that sets no pointers, with the default's data words
abbrev pub IsDefaultView : {V : Type 0} → Pointer → Pointer → (V → Struct) → Result V Error → Type 0
IsDefaultView constant pointer shown result = IsViewBy constant TakesStruct StructFormError (λ view. IsDefaultData constant pointer (shown view)) result

-- a list of numbers of a width, by its code, with its elements
abbrev pub IsNumbersView : {T : Type 0} {ghosts : ElementGhosts T} → ℕ → Pointer → Result (NumberList T ghosts) Error → Type 0
IsNumbersView code pointer result =
    IsViewBy pointer (TakesFields code) (FieldsFormError code)
    (λ view. Reads pointer (λ form. ReadsAsNumbers code form (upgraded_numbers_of code view))) result

-- a list of enums, with their numbers
abbrev pub IsEnumsView : {E : Type 0} → Pointer → Result (EnumList E) Error → Type 0
IsEnumsView pointer result =
    IsViewBy pointer (TakesFields 3) (FieldsFormError 3) (λ view. Reads pointer (λ form. ReadsAsNumbers 3 form (upgraded_numbers_of 3 view.numbers))) result

-- a list of texts, of data or of lists, with what its pointers point to
abbrev pub IsPointersView : {S T : Type 0} → (S → List (List ℕ)) → Pointer → Result (ListList S T) Error → Type 0
IsPointersView segments pointer result =
    IsViewBy pointer TakesFirstPointers FirstPointersFormError (λ view. IsUpgradedPointers pointer (upgraded_pointers_of segments view.pointers)) result
