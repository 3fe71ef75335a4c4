-- What the reading views show of a pointer (src/any_pointer, text, data, primitive_list, any_struct).
use Rattle.std.specs.Prelude.{◌≡◌, ◌≢◌, ℕ, ◌-◌, ◌<◌, ◌⊎◌, ⊤, List, [], ◌∷◌, ◌++◌, false, Option, Some, None, slice_get, MatchOption, ◌≤◌, ◌^◌, Result, MatchResult, IsOk, IfErr}
use Rattle.std.specs.Option.{ForSome}
use Rattle.std.specs.Result.{IsErrAnd}
use Rattle.capnp_frame.specs.declared.error.Error.{Error}
use Rattle.capnp_frame.specs.declared.error.ErrorKind.{ErrorKind}
use Rattle.capnp_frame.specs.declared.error.ErrorKind.TheVariants.{ReadLimitExceeded, AllocationTooLarge, WrongPointerKind, TextNotTerminated}
use Rattle.capnp_layout.specs.Tree.{is_null}
use Rattle.capnp_layout.specs.Prelude.{Form, null, struct, numbers, Shape, PointsTo, nothing, PointerError, WalkError, TreesAt, Within}
use Rattle.capnp_layout.specs.declared.place.Place.{Place}

-- A pointer that is read: the message, its place, the nesting depth left (how many objects may
-- follow one another from it on), and the limit of words that are read. A pointer past the end of a
-- struct has no place, and is null.
pub record Pointer : Type 0 where
  pub message : List (List ℕ)
  pub place : Option Place
  pub nesting : ℕ
  pub limit : Option ℕ

-- these are the words of the segment of a pointer; any words where the pointer has no place
abbrev pub HasSegment : Pointer → List ℕ → Type 0
HasSegment pointer words = ForSome pointer.place (λ place. slice_get pointer.message place.segment ≡ Some words)

-- what a pointer stands for: null, or an object within the nesting depth left
pub data Denotes (pointer : Pointer) : Shape → Type 0 where
  nowhere : pointer.place ≡ None → Denotes pointer nothing
  at_place : {place : Place} {shape : Shape} → pointer.place ≡ Some place → PointsTo pointer.message place shape
      → (is_null shape.form ≡ false → 0 < pointer.nesting) → Denotes pointer shape

-- a pointer stands for a shape for which `fact` holds
abbrev pub Shows : Pointer → (Shape → Type 0) → Type 0
Shows pointer fact = (shape : Shape) × Denotes pointer shape × fact shape

-- a pointer points to no object: this is the error, whatever has been read
abbrev pub IsInvalidPointer : Pointer → ErrorKind → Type 0
IsInvalidPointer pointer kind = (place : Place) × (pointer.place ≡ Some place) × PointerError pointer.message place pointer.nesting kind

-- the words of what is there count against the traversal limit, and may be past it
abbrev pub MeetsLimit : Pointer → ErrorKind → Type 0
MeetsLimit pointer kind = Shows pointer (λ shape. 0 < shape.traversed) × (pointer.limit ≢ None) × (kind ≡ ReadLimitExceeded)

-- what a pointer points to can't be read: no object is there, or the traversal limit is met
abbrev pub ObjectError : Pointer → ErrorKind → Type 0
ObjectError pointer kind = IsInvalidPointer pointer kind ⊎ MeetsLimit pointer kind

-- a view accepts what is there, or rejects it
abbrev pub Accepts : Pointer → (Form → Type 0) → Type 0
Accepts pointer takes = Shows pointer (λ shape. takes shape.form)

abbrev pub FormError : Pointer → (Form → ErrorKind → Type 0) → ErrorKind → Type 0
FormError pointer form_error kind = Shows pointer (λ shape. form_error shape.form kind)

-- a view fails: nothing can be read there, or it rejects what is there
abbrev pub ViewError : Pointer → (Form → ErrorKind → Type 0) → ErrorKind → Type 0
ViewError pointer form_error kind = ObjectError pointer kind ⊎ FormError pointer form_error kind

-- a view is returned: `fact` holds of the form of what is there, and the words counted are within
-- the limit
abbrev pub Reads : Pointer → (Form → Type 0) → Type 0
Reads pointer fact = Shows pointer (λ shape. fact shape.form × Within pointer.limit shape.traversed)

-- What a call for a view of a pointer returns: the view shows what is there, or the call fails with a stated
-- error. Without a limit there is a view of whatever it accepts, and no error of the limit. Where
-- no object is there, the pointer's error is returned, unless the view accepts the pointer itself;
-- where an object is there that the view rejects, the view's error is returned, or the limit's.
pub record IsViewOf {V : Type 0} (pointer : Pointer) (shows : V → Type 0) (accepts : Type 0)
    (fails form_error : ErrorKind → Type 0) (result : Result V Error) : Type 0 where
  pub returned : MatchResult result shows (λ error. fails error.kind)
  pub found : pointer.limit ≡ None → accepts → IsOk result
  pub unlimited : pointer.limit ≡ None → IfErr result (λ error. error.kind ≢ ReadLimitExceeded)
  pub exact : (kind : ErrorKind) → IsInvalidPointer pointer kind → (accepts → ⊥) → IsErrAnd result (λ error. error.kind ≡ kind)
  pub form_errors : (kind : ErrorKind) → form_error kind
      → IsErrAnd result (λ error. (error.kind ≡ kind) ⊎ MeetsLimit pointer error.kind)

-- data: empty for null, the bytes of a list of code 2
abbrev pub IsData : Form → List ℕ → Type 0
IsData null bytes = bytes ≡ []
IsData (numbers code values) bytes = (code ≡ 2) × (bytes ≡ values)
IsData _ bytes = ⊥

-- text: empty for null, else the bytes in front of the zero byte at the end of a list of code 2
abbrev pub IsText : Form → List ℕ → Type 0
IsText null bytes = bytes ≡ []
IsText (numbers code values) bytes = (code ≡ 2) × (values ≡ bytes ++ 0 ∷ [])
IsText _ bytes = ⊥

-- a list of words: empty for null, the numbers of a list of code 5
abbrev pub IsWords : Form → List ℕ → Type 0
IsWords null words = words ≡ []
IsWords (numbers code values) words = (code ≡ 5) × (words ≡ values)
IsWords _ words = ⊥

-- a struct that is read: the message, its data words, the places of its pointers, the nesting depth left at
-- them, and the limit of words that are read
pub record Struct : Type 0 where
  pub message : List (List ℕ)
  pub words : List ℕ
  pub children : List Place
  pub nesting : ℕ
  pub limit : Option ℕ

-- no data for null, the data words of a struct
abbrev pub HasData : Form → List ℕ → Type 0
HasData null words = words ≡ []
HasData (struct data_words) words = words ≡ data_words
HasData _ words = ⊥

-- a struct: no fields for null, its fields, with one less of nesting depth left
pub record IsStruct (pointer : Pointer) (fields : Struct) : Type 0 where
  pub same_message : fields.message ≡ pointer.message
  pub shown : Shows pointer (λ shape. HasData shape.form fields.words × (fields.children ≡ shape.children)
      × Within pointer.limit shape.traversed)
  pub nesting_below : fields.nesting ≡ pointer.nesting - 1
  pub same_limit : fields.limit ≡ pointer.limit

-- a struct of data words alone, in place of what a pointer points to
abbrev pub data_struct : Pointer → List ℕ → Struct
data_struct pointer words =
    record { message = pointer.message; words = words; children = []; nesting = pointer.nesting - 1; limit = pointer.limit }

-- a pointer of a struct; null past its pointers
abbrev pub pointer_in : Struct → ℕ → Pointer
pointer_in fields index =
    record { message = fields.message; place = slice_get fields.children index; nesting = fields.nesting; limit = fields.limit }

-- the forms that a view of a list of numbers of this code accepts
abbrev pub TakesNumbers : ℕ → Form → Type 0
TakesNumbers wanted null = ⊤
TakesNumbers wanted (numbers code values) = code ≡ wanted
TakesNumbers wanted _ = ⊥

abbrev pub TakesText : Form → Type 0
TakesText null = ⊤
TakesText (numbers code values) = (code ≡ 2) × ((bytes : List ℕ) × (values ≡ bytes ++ 0 ∷ []))
TakesText _ = ⊥

abbrev pub TakesStruct : Form → Type 0
TakesStruct null = ⊤
TakesStruct (struct words) = ⊤
TakesStruct _ = ⊥

-- the error for a form that isn't a list of such numbers
abbrev pub NumbersFormError : ℕ → Form → ErrorKind → Type 0
NumbersFormError wanted form kind = (TakesNumbers wanted form → ⊥) × (kind ≡ WrongPointerKind)

abbrev pub StructFormError : Form → ErrorKind → Type 0
StructFormError form kind = (TakesStruct form → ⊥) × (kind ≡ WrongPointerKind)

-- `WrongPointerKind` for what is no list of bytes, `TextNotTerminated` for a list of bytes without
-- a zero byte at its end
abbrev pub TextFormError : Form → ErrorKind → Type 0
TextFormError form kind =
    ((TakesNumbers 2 form → ⊥) × (kind ≡ WrongPointerKind))
    ⊎ (TakesNumbers 2 form × (TakesText form → ⊥) × (kind ≡ TextNotTerminated))

-- the words of all the trees that a pointer points to, where these are within the nesting depth left
-- and the limit
abbrev pub Measures : Pointer → ℕ → Type 0
Measures pointer words = MatchOption pointer.place (words ≡ 0)
    (λ place. (traversed : ℕ) × TreesAt pointer.message (place ∷ []) pointer.nesting traversed words × Within pointer.limit traversed)

-- measuring them fails: a walk over them stops, or, once it is done, there are 2 ^ 64 words or more
abbrev pub MeasuringError : Pointer → ErrorKind → Type 0
MeasuringError pointer kind = (place : Place) × (pointer.place ≡ Some place)
    × (WalkError pointer.message (place ∷ []) pointer.nesting pointer.limit kind
    ⊎ ((words : ℕ) × Measures pointer words × (2 ^ 64 ≤ words) × (kind ≡ AllocationTooLarge (2 ^ 32 - 1))))
