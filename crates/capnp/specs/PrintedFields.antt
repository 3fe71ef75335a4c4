-- Which fields of a struct are shown (src/stringify/fields.rt).
use Rattle.std.specs.Prelude.{◌≡◌, ◌≢◌, ◌⊎◌, ℕ, ◌<◌, Option, Some}
use Rattle.capnp_layout.specs.Prelude.{nothing}
use Rattle.capnp_wire.specs.Prelude.{field, Struct, Denotes, pointer_in}
use Rattle.capnp.specs.declared.stringify.schema.Base.{Base}
use Rattle.capnp.specs.declared.stringify.schema.Base.TheVariants.{Text, Data, Struct as OfStruct, Interface, AnyPointer}

-- the types whose fields are pointers
abbrev pub IsPointerBase : Base → Type 0
IsPointerBase Text = Unit {0}
IsPointerBase Data = Unit {0}
IsPointerBase (OfStruct number) = Unit {0}
IsPointerBase Interface = Unit {0}
IsPointerBase AnyPointer = Unit {0}
IsPointerBase base = ⊥

abbrev pub IsPointer : ℕ → Base → Type 0
IsPointer lists base = (0 < lists) ⊎ IsPointerBase base

-- A field that is a member of the union is set: the union's number is its own.
abbrev pub IsMemberSet : Struct → Option ℕ → Option ℕ → Type 0
IsMemberSet of discriminant member =
    (offset number : ℕ) → discriminant ≡ Some offset → member ≡ Some number → field of.words 16 offset ≡ number

-- it is a member of the union, and not the first one
abbrev pub IsLaterMember : Option ℕ → Option ℕ → Type 0
IsLaterMember discriminant member =
    (offset number : ℕ) × (discriminant ≡ Some offset) × (member ≡ Some number) × (number ≢ 0)

-- A field is shown: a member of the union only where it is set, and a pointer only where it is not null or a
-- later member.
abbrev pub IsShown : Struct → Option ℕ → Option ℕ → Type 0 → ℕ → Type 0
IsShown of discriminant member IsPointerField index =
    IsMemberSet of discriminant member
    × (IsLaterMember discriminant member ⊎ (IsPointerField → Denotes (pointer_in of index) nothing → ⊥))
