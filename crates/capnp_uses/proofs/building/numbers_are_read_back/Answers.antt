-- The numbers that are read are at the root.
use Rattle.std.proofs.Common.{◌≡◌, ◌∙◌, ◌∷◌, [], take, arith, refl}
use Rattle.std.proofs.lemmas.List.{take_all}
use Rattle.capnp_wire.specs.Prelude.{numbers, IsNumbers, numbers_of, TakesNumbers}
use Rattle.capnp_uses.proofs.BuiltRootViewLemmas.{root_is_read, root_accepts}
use Rattle.capnp_uses.proofs.building.numbers_are_read_back.Goals as goal

pub returns : goal.returns
returns g c =
    let words = numbers_of 5 c.in_ok-list.list in
    let there = root_is_read _ (numbers 5 (c.args.first ∷ c.args.second ∷ [])) (λ form. IsNumbers 5 form words)
    c.in_ok-write_numbers.ensures.has_root c.in_ok-list.ensures.returned in
    let all : take c.loop-index.index words ≡ words = take_all c.loop-index.index words (omega arith) in
    record { has_root = c.in_ok-write_numbers.ensures.has_root; back = c.loop-index.invariant ∙ all ∙ there.1; errors = tt }

pub returns-in_err-list-clause-errors : goal.returns-in_err-list-clause-errors
returns-in_err-list-clause-errors g c =
    let never = c.in_err-list.ensures.found refl (root_accepts _ (numbers 5 (c.args.first ∷ c.args.second ∷ [])) (TakesNumbers 5) c.in_ok-write_numbers.ensures.has_root refl) in
    absurd (cc)
