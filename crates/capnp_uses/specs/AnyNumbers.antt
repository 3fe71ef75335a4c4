-- Lists of numbers of any width (src/any_numbers.rt).
use Rattle.std.specs.Prelude.{◌≡◌, ℕ, ⊤, List, [], Option, Some, None}
use Rattle.capnp_frame.specs.declared.error.ErrorKind.{ErrorKind}
use Rattle.capnp_frame.specs.declared.error.ErrorKind.TheVariants.{WrongPointerKind}
use Rattle.capnp_wire.specs.Prelude.{Form, null, numbers, sized_numbers_of}
use Rattle.capnp_wire.specs.declared.any_object.numbers.Numbers.{Numbers}
use Rattle.capnp_uses.specs.declared.any_numbers.Reader.{Reader}

-- the bits of each element; none where there is no list
abbrev pub element_bits : Option Numbers → List ℕ
element_bits None = []
element_bits (Some list) = sized_numbers_of list

abbrev pub any_numbers_of : Reader → List ℕ
any_numbers_of list = element_bits list.numbers

-- no numbers for null, and the elements of a list of numbers of any width
abbrev pub IsAnyNumbers : Form → List ℕ → Type 0
IsAnyNumbers null values = values ≡ []
IsAnyNumbers (numbers code there) values = values ≡ there
IsAnyNumbers _ values = ⊥

abbrev pub TakesAnyNumbers : Form → Type 0
TakesAnyNumbers null = ⊤
TakesAnyNumbers (numbers code values) = ⊤
TakesAnyNumbers _ = ⊥

-- the error for objects of other forms
abbrev pub AnyNumbersFormError : Form → ErrorKind → Type 0
AnyNumbersFormError form kind = (TakesAnyNumbers form → ⊥) × (kind ≡ WrongPointerKind)
