-- New objects (src/object.rt).
use Rattle.std.specs.Prelude.{ℕ, zero, suc, ◌+◌, ◌-◌, ◌*◌, ◌^◌, ◌<◌, ⊤, Bool, true, Option, Some, None, replicate}
use Rattle.capnp_layout.specs.Prelude.{words_for, Form, null, struct, numbers}
use Rattle.capnp_build.specs.declared.object.NewBody.{NewBody}
use Rattle.capnp_build.specs.declared.object.NewBody.TheVariants.{Bytes, Words, Struct}

-- the words of an object
abbrev pub words_of_body : NewBody → ℕ
words_of_body (Bytes n) = words_for n 8
words_of_body (Words n) = n
words_of_body (Struct d) = d

-- each number has room in its field
abbrev pub Fits : NewBody → Type 0
Fits (Bytes n) = n < 2 ^ 29
Fits (Words n) = n < 2 ^ 29
Fits (Struct d) = d < 2 ^ 16

-- the pointer to an object that begins this many words after it
abbrev pub body_pointer_word : ℕ → NewBody → ℕ
body_pointer_word offset (Bytes n) = 1 + 4 * offset + 2 * 2 ^ 32 + n * 2 ^ 35
body_pointer_word offset (Words n) = 1 + 4 * offset + 5 * 2 ^ 32 + n * 2 ^ 35
-- the pointer to a struct of no words points to itself, since a word of zeros is null
body_pointer_word offset (Struct zero) = 4 * (2 ^ 30 - 1)
body_pointer_word offset (Struct (suc n)) = 4 * offset + suc n * 2 ^ 32

-- a new object
abbrev pub zero_form : NewBody → Form
zero_form (Bytes n) = numbers 2 (replicate n 0)
zero_form (Words n) = numbers 5 (replicate n 0)
zero_form (Struct d) = struct (replicate d 0)

abbrev pub new_form : Option NewBody → Form
new_form None = null
new_form (Some body) = zero_form body

abbrev pub OptionFits : Option NewBody → Type 0
OptionFits None = ⊤
OptionFits (Some body) = Fits body

-- in canonical form a new struct has no data words
abbrev pub output_new_object : Bool → NewBody → NewBody
output_new_object true (Struct d) = Struct 0
output_new_object canonical body = body
