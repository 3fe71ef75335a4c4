-- What is read from a pointer word (src/pointer.rt).
use Rattle.std.specs.Prelude.{◌≡◌, ℕ, ◌<◌, ◌^◌, if◌then◌else◌}
use Rattle.capnp_layout.specs.Pointer.{pointer_kind, offset, data_words, pointer_words, code, list_count, has_wide_landing_pad}
use Rattle.capnp_layout.specs.Element.{code_of}
use Rattle.capnp_layout.specs.Object.{landing_pad}
use Rattle.capnp_layout.specs.declared.pointer.Elements.{Elements}
use Rattle.capnp_layout.specs.declared.pointer.FarPointer.{FarPointer}
use Rattle.capnp_layout.specs.declared.pointer.LocalPointer.{LocalPointer}
use Rattle.capnp_layout.specs.declared.pointer.LocalShape.{LocalShape}
use Rattle.capnp_layout.specs.declared.pointer.LocalShape.TheVariants.{Struct, Numbers, Pointers, Structs}
use Rattle.capnp_layout.specs.declared.pointer.PointerWord.{PointerWord}
use Rattle.capnp_layout.specs.declared.pointer.PointerWord.TheVariants.{Local, Far, Other}

-- the struct or list pointer points to this
abbrev pub IsLocalShape : ℕ → LocalShape → Type 0
IsLocalShape word (Struct size) = (pointer_kind word ≡ 0) × (size.data_words ≡ data_words word) × (size.pointers ≡ pointer_words word)
IsLocalShape word (Numbers elements count) =
    (pointer_kind word ≡ 1) × (code word < 6) × (code_of elements ≡ code word) × (count ≡ list_count word)
IsLocalShape word (Pointers count) = (pointer_kind word ≡ 1) × (code word ≡ 6) × (count ≡ list_count word)
IsLocalShape word (Structs words) = (pointer_kind word ≡ 1) × (code word ≡ 7) × (words ≡ list_count word)

-- the tag in front of the elements of a list of structs
pub record IsElementsTag (word : ℕ) (elements : Elements) : Type 0 where
  pub struct_kind : pointer_kind word ≡ 0
  pub count_is : elements.count ≡ offset word
  pub data_is : elements.size.data_words ≡ data_words word
  pub pointers_are : elements.size.pointers ≡ pointer_words word

pub record IsLocal (word : ℕ) (local : LocalPointer) : Type 0 where
  pub small : word < 2 ^ 64
  pub local_kind : pointer_kind word < 2
  pub offset_is : local.offset.0 ≡ offset word
  pub shape_is : IsLocalShape word local.shape

pub record IsFarPointer (word : ℕ) (far : FarPointer) : Type 0 where
  pub far_kind : pointer_kind word ≡ 2
  pub landing_pad_is : far.landing_pad ≡ landing_pad word
  pub width : has_wide_landing_pad word ≡ (if far.is_double_far then 1 else 0)

abbrev pub IsPointerWord : ℕ → PointerWord → Type 0
IsPointerWord word (Local local) = IsLocal word local
IsPointerWord word (Far far) = IsFarPointer word far
IsPointerWord word Other = pointer_kind word ≡ 3
