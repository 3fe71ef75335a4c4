-- There are bytes in front of a last zero exactly where the last byte is zero.
use Rattle.std.proofs.Common.{◌≡◌, ◌+◌, ℕ, List, [], ◌∷◌, suc, length, ap, ◌∙◌, arith, length-append}
use Rattle.capnp_wire.proofs.views.EnteredObjectShownLemmas.{zero_after, no_zero_after}
use Rattle.capnp_wire.proofs.text.reader.before_zero.Goals as goal

pub returns-in_default : goal.returns-in_default
returns-in_default c = λ text e.
    let one_more : length c.args.bytes.now ≡ length text + 1 = ap (λ (l : List ℕ). length l) e ∙ length-append text (0 ∷ []) in
    absurd (omega (arith, c.in_default.ensures))

pub returns-then-last-ne0 : goal.returns-then-last-ne0
returns-then-last-ne0 c = λ text e.
    let long : suc c.in-Some.end ≡ length c.args.bytes.now = omega (arith, c.in-Some.ensures) in
    c.if-last-ne0.true (no_zero_after c.args.bytes.now text c.in-Some.end e long)

pub returns : goal.returns
returns c =
    let long : suc c.in-Some.end ≡ length c.args.bytes.now = omega (arith, c.in-Some.ensures) in
    zero_after c.args.bytes.now c.in-Some.end long c.if-last-ne0.false
