-- A pointer word is the one that its parts make. Where its offset counts up to the next free word, its object
-- begins there.
use Rattle.std.proofs.Common.{◌≡◌, ℕ, ◌+◌, ◌-◌, ◌*◌, ◌/◌, ◌^◌, ◌<◌, arith}
use Rattle.capnp_layout.specs.Prelude.{pointer_kind, offset, data_words, pointer_words, code, list_count, struct_pointer, list_pointer}

pub list_parts : (word o c n : ℕ) → pointer_kind word ≡ 1 → code word ≡ c → list_count word ≡ n → offset word ≡ o → word ≡ list_pointer o c n
list_parts word o c n k is many at = omega arith

pub struct_parts : (word o d p : ℕ) → pointer_kind word ≡ 0 → data_words word ≡ d → pointer_words word ≡ p → offset word ≡ o → word ≡ struct_pointer o d p
struct_parts word o d p k is many at = omega arith

pub point_start : (word next start off : ℕ) → word < next → (off ≡ next - (word + 1)) × (next - (word + 1) < 2 ^ 29) → start + 2 ^ 30 * (off / 2 ^ 29) ≡ word + 1 + off → start ≡ next
point_start word next start off before points_to target = omega (arith, points_to.0, points_to.1)
