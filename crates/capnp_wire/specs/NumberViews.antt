-- What the views of lists of numbers show (src/primitive_list, src/any_object/numbers.rt).
use Rattle.std.specs.Prelude.{◌≡◌, ℕ, List, []}
use Rattle.capnp_layout.specs.Prelude.{words_of, code_of, Form, null, numbers, elements}
use Rattle.capnp_wire.specs.declared.primitive_element.PrimitiveElement.{Ghosts}
use Rattle.capnp_wire.specs.declared.primitive_list.reader.Reader.{Reader}
use Rattle.capnp_wire.specs.declared.any_object.numbers.Numbers.{Numbers}

-- a list of numbers: empty for null, the bits of each element of a list of this code
abbrev pub IsNumbers : ℕ → Form → List ℕ → Type 0
IsNumbers wanted null values = values ≡ []
IsNumbers wanted (numbers code there) values = (code ≡ wanted) × (values ≡ there)
IsNumbers wanted _ values = ⊥

-- what contracts see of a reader, whose elements have this code
abbrev pub numbers_of : {T : Type 0} {ghosts : Ghosts T} → ℕ → Reader T ghosts → List ℕ
numbers_of code list = elements (words_of list.bytes.now) 0 code list.count

-- what contracts see of a list that holds the size of its elements
abbrev pub sized_numbers_of : Numbers → List ℕ
sized_numbers_of list = elements (words_of list.bytes.now) 0 (code_of list.size) list.count
