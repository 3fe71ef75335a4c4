-- Hexadecimal digits are UTF-8.
use Rattle.std.proofs.Common.{arith, nat_lt, true, ◌<◌, refl, ◌≡◌, ℕ, List, sym, subst}
use Rattle.std.specs.Prelude.{IsAscii, IsUtf8, OnOk, IsOk, Result, Ok, Err, MatchResult}
use Rattle.std.proofs.lemmas.Str.{IsUtf8-from_ascii}
use Rattle.std.proofs.lemmas.Str.Ascii.{IsAscii-from_all}
use Rattle.std.proofs.lemmas.List.Sums.{AllPass-from_list_all}
use Rattle.std.proofs.lemmas.Bool.Decides.{nat_tests}
use Rattle.hex.specs.Hex.{encode_lower, lower_digits}
use Rattle.hex.specs.declared.error.FromHexError.{FromHexError}
use Rattle.hex.proofs.HexLemmas.{IsAscii-encode_with}
use Rattle.capnp_show.proofs.numbers.push_hexadecimal.Goals as goal

nat_lt-below : (b : ℕ) → nat_lt b 128 ≡ true → b < 128
nat_lt-below b is = grind (arith, nat_tests)

digits_ascii : IsAscii lower_digits
digits_ascii = IsAscii-from_all lower_digits (λ k d below. nat_lt-below _ (AllPass-from_list_all (λ b. nat_lt b 128) lower_digits refl k d below))

read_ok : {T E : Type 0} (read : Result T E) (bytes : List ℕ) (P : T → Type 0) (Q : E → Type 0) → MatchResult read P (λ e. (IsUtf8 bytes → ⊥) × Q e) → IsUtf8 bytes → IsOk read
read_ok (Ok value) bytes P Q is utf8 = refl
read_ok (Err error) bytes P Q is utf8 = absurd (is.0 utf8)

pub unwrap-requires-2 : goal.unwrap-requires-2
unwrap-requires-2 c =
    let written : c.encode_to_slice.new.output ≡ encode_lower c.args.bytes = subst (λ (r : Result Unit FromHexError). OnOk r (c.encode_to_slice.new.output ≡ encode_lower c.args.bytes)) c.unwrap.ensures c.encode_to_slice.ensures.written in
    let utf8 : IsUtf8 c.encode_to_slice.new.output = subst IsUtf8 (sym written) (IsUtf8-from_ascii (encode_lower c.args.bytes) (IsAscii-encode_with lower_digits c.args.bytes digits_ascii)) in
    read_ok c.from_utf8.result c.encode_to_slice.new.output _ _ c.from_utf8.ensures.cases utf8
