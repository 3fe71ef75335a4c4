-- A number of one digit is its digit's character.
use Rattle.std.proofs.Common.{arith, ◌≡◌, List, ℕ, ◌+◌, ◌++◌, decimal, string_bytes, sym, subst, ◌∙◌}
use Rattle.std.specs.Prelude.{if◌then◌else◌}
use Rattle.std.specs.Char.{encode_utf8}
use Rattle.std.specs.Result.{is_ok}
use Rattle.std.proofs.lemmas.Fmt.{decimal_digit}
use Rattle.capnp_show.proofs.JoinedAddedStringsLemmas.{pushed}
use Rattle.capnp_show.proofs.numbers.push_decimal.Goals as goal

pub returns-then-number-lt10 : goal.returns-then-number-lt10
returns-then-number-lt10 c =
    let digit : encode_utf8 (48 + c.args.number) ≡ decimal c.args.number = c.push.ensures.ascii (omega arith) ∙ sym (decimal_digit c.args.number (omega arith)) in
    pushed c.push.result (string_bytes c.args.output.now) (decimal c.args.number) _
    (subst (λ (added : List ℕ). string_bytes c.push.new.self ≡ (if is_ok c.push.result then string_bytes c.args.output.now ++ added else string_bytes c.args.output.now)) digit c.push.ensures.bytes)
