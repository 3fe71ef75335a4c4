-- Whether the last byte is zero.
use Rattle.std.proofs.Common.{◌≡◌, ℕ, suc, ◌+◌, ◌-◌, List, [], ◌∷◌, ◌++◌, length, take, true, false, ap, ◌∙◌, arith, length-append}
use Rattle.capnp_wire.proofs.views.EnteredObjectShownLemmas.{zero_after}
use Rattle.capnp_build.proofs.text.ends_with_zero.Goals as goal

none_in : (bytes text : List ℕ) → length bytes ≡ 0 → bytes ≡ text ++ 0 ∷ [] → ⊥
none_in bytes text none e = let l : length bytes ≡ length text + 1 = ap length e ∙ omega (arith, length-append text (0 ∷ [])) in absurd (omega (arith, l, none))

pub returns : goal.returns
returns c =
    let bytes : List ℕ = c.args.bytes.now in
    let n : ℕ = length bytes in
    let last : suc (n - 1) ≡ length bytes = omega arith in
    record { yes = λ e. (take (n - 1) bytes, zero_after bytes (n - 1) last (omega arith)); no = λ e. absurd (let no : true ≡ false = e in cc) }

pub returns-then-n-eq0 : goal.returns-then-n-eq0
returns-then-n-eq0 c = record { yes = λ e. absurd (let no : false ≡ true = e in cc); no = λ e text h. none_in c.args.bytes.now text (omega arith) h }
