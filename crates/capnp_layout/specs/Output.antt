-- The bodies of copies of objects, untrimmed or in canonical form (src/output_size.rt), and the pointer words
-- to the copies (src/body_word.rt).
use Rattle.std.specs.Prelude.{◌≡◌, ℕ, ◌+◌, ◌*◌, ◌≤◌, ◌==◌, if◌then◌else◌, Bool, true, List}
use Rattle.capnp_layout.specs.Element.{code_of}
use Rattle.capnp_layout.specs.Layout.{struct_pointer, list_pointer, minus_one}
use Rattle.capnp_layout.specs.Block.{most_used}
use Rattle.capnp_layout.specs.declared.pointer.StructSize.{StructSize}
use Rattle.capnp_layout.specs.declared.object.Body.{Body}
use Rattle.capnp_layout.specs.declared.object.Body.TheVariants.{Struct, Numbers, Pointers, Structs}

-- the least size that holds n consecutive structs of this size, the first of them at a word
abbrev pub least_size : List ℕ → ℕ → StructSize → ℕ → StructSize
least_size words start size n = record {
  data_words = most_used words start size.data_words (size.data_words + size.pointers) n;
  pointers = most_used words (start + size.data_words) size.pointers (size.data_words + size.pointers) n;
}

-- the body of an object's copy
abbrev pub output_body_of : Bool → List ℕ → ℕ → Body → Body
output_body_of true words start (Struct size) = Struct (least_size words start size 1)
output_body_of true words start (Structs elements following) =
    Structs (record { size = least_size words (start + 1) elements.size elements.count; count = elements.count }) following
output_body_of canonical words start there = there

-- the pointer word to a body
abbrev pub pointer_of_body : Body → ℕ → ℕ
pointer_of_body (Struct size) offset =
    struct_pointer (if size.data_words + size.pointers == 0 then minus_one else offset) size.data_words size.pointers
pointer_of_body (Numbers size n) offset = list_pointer offset (code_of size) n
pointer_of_body (Pointers n) offset = list_pointer offset 6 n
pointer_of_body (Structs elements following) offset =
    list_pointer offset 7 (elements.count * (elements.size.data_words + elements.size.pointers))

-- the count in the pointer to a list
abbrev pub list_length : Body → ℕ
list_length (Struct size) = 0
list_length (Numbers size n) = n
list_length (Pointers n) = n
list_length (Structs elements following) = elements.count * (elements.size.data_words + elements.size.pointers)

-- the same kind of object, with no more words in a section
abbrev pub IsNarrower : Body → Body → Type 0
IsNarrower (Struct from) (Struct size) = (size.data_words ≤ from.data_words) × (size.pointers ≤ from.pointers)
IsNarrower (Structs from following) (Structs elements words) =
    (elements.count ≡ from.count) × (elements.size.data_words ≤ from.size.data_words) × (elements.size.pointers ≤ from.size.pointers)
IsNarrower (Numbers from n) (Numbers size count) = (size ≡ from) × (count ≡ n)
IsNarrower (Pointers n) (Pointers count) = count ≡ n
IsNarrower from copied = ⊥
