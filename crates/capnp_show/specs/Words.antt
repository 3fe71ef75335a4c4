-- What each word of a message is to its object (src/owners.rt).
use Rattle.std.specs.Prelude.{◌≡◌, ℕ, ◌+◌, ◌*◌, ◌<◌, ◌≤◌, ⊤, List, Option, None, slice_get, option_and_then}
use Rattle.capnp_layout.specs.declared.object.Body.{Body}
use Rattle.capnp_layout.specs.declared.object.Body.TheVariants.{Struct, Numbers, Pointers, Structs}
use Rattle.capnp_layout.specs.declared.place.Place.{Place}
use Rattle.capnp_layout.specs.declared.pointer.StructSize.{StructSize}
use Rattle.capnp_show.specs.declared.owners.Role.{Role}
use Rattle.capnp_show.specs.declared.owners.Role.TheVariants.{Data, Pointer, Tag, Landing}
use Rattle.capnp_show.specs.declared.owners.Owner.{Owner}
use Rattle.capnp_show.specs.declared.owners.Owner.TheVariants.{Free, Root, Object}
use Rattle.capnp_show.specs.declared.owners.Lead.TheVariants.{Nowhere}
use Rattle.capnp_show.specs.declared.owners.Word.{Word}
use Rattle.capnp_show.specs.declared.owners.Owners.{Owners}
use Rattle.capnp_show.specs.Objects.{words_of_struct}

-- the word is a pointer of one of some structs, by how many words it comes after the start of the first one
pub record IsPointerOfElement (size : StructSize) (count index : ℕ) : Type 0 where
  pub element : ℕ
  pub among : element < count
  pub after_data : element * words_of_struct size + size.data_words ≤ index
  pub within : index < element * words_of_struct size + words_of_struct size

-- what it is to the element
abbrev pub IsRoleInElement : StructSize → ℕ → ℕ → Role → Type 0
IsRoleInElement size count index Data = IsPointerOfElement size count index → ⊥
IsRoleInElement size count index Pointer = IsPointerOfElement size count index
IsRoleInElement size count index Tag = ⊥
IsRoleInElement size count index Landing = ⊥

-- the word of an object is one of its pointers, by how many words it comes after the object's start
abbrev pub IsPointerIn : Body → ℕ → Type 0
IsPointerIn (Struct size) index = size.data_words ≤ index
IsPointerIn (Numbers size count) index = ⊥
IsPointerIn (Pointers count) index = ⊤
IsPointerIn (Structs elements following) index = (after_tag : ℕ) × (index ≡ 1 + after_tag)
    × IsPointerOfElement elements.size elements.count after_tag

-- or the tag of a list of structs
abbrev pub IsTagIn : Body → ℕ → Type 0
IsTagIn (Struct size) index = ⊥
IsTagIn (Numbers size count) index = ⊥
IsTagIn (Pointers count) index = ⊥
IsTagIn (Structs elements following) index = index ≡ 0

-- what a word is to its object: one thing alone, and data where it is nothing else
abbrev pub IsRole : Body → ℕ → Role → Type 0
IsRole body index Data = (IsPointerIn body index → ⊥) × (IsTagIn body index → ⊥)
IsRole body index Pointer = IsPointerIn body index
IsRole body index Tag = IsTagIn body index
IsRole body index Landing = ⊥

-- a word of this owner is drawn as a pointer
abbrev pub IsDrawnAsPointer : Owner → Type 0
IsDrawnAsPointer Free = ⊥
IsDrawnAsPointer Root = ⊤
IsDrawnAsPointer (Object number role) = role ≡ Pointer

-- a word of some bytes before a walk
abbrev pub free_word : List ℕ → Word
free_word bytes = record { bytes = bytes; owner = Free; lead = Nowhere; error = None }

-- the word at a place
abbrev pub word_in : Owners → Place → Option Word
word_in owners place = option_and_then (λ words. slice_get words.items place.word) (slice_get owners.segments.items place.segment)
