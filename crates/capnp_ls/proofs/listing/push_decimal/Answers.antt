-- Digit by digit, from the last.
use Rattle.std.proofs.Common.{arith, rules, ◌≡◌, ◌+◌, ◌-◌, ap, ◌++◌, ◌∙◌, sym, length, take, drop, set, length-drop}
use Rattle.std.proofs.lemmas.List.{take_all}
use Rattle.capnp_ls.proofs.DecimalDigitsFromLastLemmas.{two_places, tenth_below, digit_more, digit_first}
use Rattle.capnp_ls.proofs.listing.push_decimal.Goals as goal

pub loop-left-preserved : goal.loop-left-preserved
loop-left-preserved c =
    let is = c.loop-left.invariant in
    let two = two_places c.loop-left.left c.loop-left.at c.loop-left-test.true is.2 in
    let long : length c.loop-left.digits ≡ 20 = is.3 in (
      omega (arith, two),
      omega arith,
      tenth_below c.loop-left.left c.loop-left.at two is.2,
      search rules,
      digit_more c.args.number c.loop-left.left c.loop-left.at c.loop-left.digits c.loop-left-test.true
          (search rules) is.0 (omega arith) is.4,
    )

pub returns-clause-ok : goal.returns-clause-ok
returns-clause-ok c =
    let is = c.loop-left.invariant in
    let at = c.loop-left.at in
    let long : length c.loop-left.digits ≡ 20 = is.3 in
    let digits = set c.loop-left.digits (at - 1) (48 + c.loop-left.left) in
    let same : length digits ≡ 20 = search rules in
    let all : take (20 - (at - 1)) (drop (at - 1) digits) ≡ drop (at - 1) digits = take_all (20 - (at - 1)) (drop (at - 1) digits) (omega (arith, length-drop (at - 1) digits)) in
    let first = digit_first c.args.number c.loop-left.left at c.loop-left.digits c.loop-left-test.false is.0 (omega arith) is.4 in
    c.in_ok-write_all.ensures.added ∙ ap (λ l. c.args.line.now.items ++ l) (all ∙ sym first)
