-- A pointer word that is made of an offset, sizes or a count has these in its fields.
use Rattle.std.proofs.Common.{◌≡◌, ℕ, ◌^◌, ◌<◌, arith}
use Rattle.capnp_layout.specs.Prelude.{pointer_kind, offset, data_words, pointer_words, code, list_count, struct_pointer, list_pointer}

pub record StructFields (word o d p : ℕ) : Type 0 where
  pub kind_is : pointer_kind word ≡ 0
  pub offset_is : offset word ≡ o
  pub data_is : data_words word ≡ d
  pub pointers_are : pointer_words word ≡ p

pub record ListFields (word o c n : ℕ) : Type 0 where
  pub kind_is : pointer_kind word ≡ 1
  pub offset_is : offset word ≡ o
  pub code_is : code word ≡ c
  pub count_is : list_count word ≡ n

pub struct_fields : (o d p : ℕ) → o < 2 ^ 30 → d < 2 ^ 16 → StructFields (struct_pointer o d p) o d p
struct_fields o d p small few = record { kind_is = omega arith; offset_is = omega arith; data_is = omega arith; pointers_are = omega arith }

pub list_fields : (o c n : ℕ) → o < 2 ^ 30 → c < 8 → ListFields (list_pointer o c n) o c n
list_fields o c n small code = record { kind_is = omega arith; offset_is = omega arith; code_is = omega arith; count_is = omega arith }
