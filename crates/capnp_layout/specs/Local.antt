-- Structs and lists as objects, and the pointer to a struct of no words (src/number_list.rt,
-- src/pointer_run.rt, src/struct_list.rt, src/fast_path.rt).
use Rattle.std.specs.Prelude.{◌≡◌, ◌⊎◌, ℕ, ◌+◌, ◌<◌, List, length}
use Rattle.capnp_layout.specs.Pointer.{words_from}
use Rattle.capnp_layout.specs.Trim.{cut_zeros}
use Rattle.capnp_layout.specs.Body.{traversed_of}
use Rattle.capnp_layout.specs.Layout.{struct_pointer, minus_one}
use Rattle.capnp_layout.specs.declared.number_list.NumberList.{NumberList}
use Rattle.capnp_layout.specs.declared.fast_path.LocalStruct.{LocalStruct}
use Rattle.capnp_layout.specs.declared.pointer_run.PointerRun.{PointerRun}
use Rattle.capnp_layout.specs.declared.struct_list.StructList.{StructList}
use Rattle.capnp_layout.specs.declared.object.Body.TheVariants.{Struct, Numbers, Pointers, Structs}
use Rattle.capnp_layout.specs.declared.object.Object.{Object}

abbrev pub object_of : NumberList → Object
object_of list = record {
  segment = list.segment;
  start = list.start;
  body = Numbers list.size list.count;
  traversed = traversed_of (Numbers list.size list.count);
}

-- a struct as an object
abbrev pub local_struct_of : LocalStruct → Object
local_struct_of found = record {
  segment = found.segment;
  start = found.start;
  body = Struct found.size;
  traversed = found.size.data_words + found.size.pointers;
}

-- a list of pointers as an object
abbrev pub pointers_of : PointerRun → Object
pointers_of list = record {
  segment = list.segment;
  start = list.first;
  body = Pointers list.count;
  traversed = list.count;
}

-- a list of structs as an object
abbrev pub structs_of : StructList → Object
structs_of list = record {
  segment = list.segment;
  start = list.start;
  body = Structs list.elements list.words;
  traversed = traversed_of (Structs list.elements list.words);
}

-- the pointer to a struct of no words that begins at the pointer itself
abbrev pub empty_struct : ℕ
empty_struct = struct_pointer minus_one 0 0

-- a pointer that is null, or points to such a struct that may be entered with this nesting depth
-- left
abbrev pub IsNullOrEmptyStruct : ℕ → ℕ → Type 0
IsNullOrEmptyStruct pointer nesting = (pointer ≡ 0) ⊎ ((pointer ≡ empty_struct) × (0 < nesting))

-- this many pointers are null, from a word on
abbrev pub AreNull : List ℕ → ℕ → ℕ → Type 0
AreNull words start n = length (cut_zeros (words_from words start n)) ≡ 0
