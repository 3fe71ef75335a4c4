-- What the view of whatever a pointer points to shows (src/any_object/reader.rt).
use Rattle.std.specs.Prelude.{◌≡◌, ℕ, ⊤, List}
use Rattle.capnp_frame.specs.declared.message.segments.ReaderSegments.{Ghosts}
use Rattle.capnp_layout.specs.Prelude.{code_of, Form, null, struct, numbers, pointers, structs, nothing}
use Rattle.capnp_wire.specs.Readers.{struct_of}
use Rattle.capnp_wire.specs.Views.{Pointer, Denotes, Accepts, Reads, IsStruct}
use Rattle.capnp_wire.specs.ListViews.{IsStructList, IsPointerList, struct_list_of, pointer_list_of}
use Rattle.capnp_wire.specs.NumberViews.{sized_numbers_of}
use Rattle.capnp_wire.specs.declared.any_object.reader.Reader.{Reader}
use Rattle.capnp_wire.specs.declared.any_object.reader.Reader.TheVariants.{Null, Struct, Structs, Pointers, Numbers}

-- it accepts null, and every object
abbrev pub TakesAll : Form → Type 0
TakesAll form = ⊤

-- the kind of object that a view is of, and what the object has apart from its pointers
abbrev pub ShowsForm : {S : Type 0} {ghosts : Ghosts S} → (S → List (List ℕ)) → Reader S ghosts → Form → Type 0
ShowsForm segments Null form = form ≡ null
ShowsForm segments (Struct view) form = form ≡ struct (struct_of segments view).words
ShowsForm segments (Structs view) form =
    let list = struct_list_of segments view in (d : ℕ) × (form ≡ structs d list.pointer_words list.elements)
ShowsForm segments (Pointers view) form = form ≡ pointers
ShowsForm segments (Numbers list) form = form ≡ numbers (code_of list.size) (sized_numbers_of list)

-- the view of this kind shows what the pointer points to, as it does where one asks for this kind
-- alone
abbrev pub ShowsKind : {S : Type 0} {ghosts : Ghosts S} → (S → List (List ℕ)) → Pointer → Reader S ghosts → Type 0
ShowsKind segments pointer Null = Denotes pointer nothing
ShowsKind segments pointer (Struct view) = IsStruct pointer (struct_of segments view)
ShowsKind segments pointer (Structs view) = IsStructList pointer (struct_list_of segments view)
ShowsKind segments pointer (Pointers view) = IsPointerList pointer (pointer_list_of segments view)
ShowsKind segments pointer (Numbers list) = Reads pointer (λ form. form ≡ numbers (code_of list.size) (sized_numbers_of list))

-- a view of what the pointer points to
pub record IsObjectView {S : Type 0} {ghosts : Ghosts S} (segments : S → List (List ℕ)) (pointer : Pointer) (view : Reader S ghosts) : Type 0 where
  pub kind : Accepts pointer (ShowsForm segments view)
  pub shown : ShowsKind segments pointer view
