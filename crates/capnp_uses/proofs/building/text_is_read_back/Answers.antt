-- The text that is read is the one that is at the root.
use Rattle.std.proofs.Common.{rules, ◌++◌, ◌∷◌, [], refl}
use Rattle.capnp_wire.specs.Prelude.{numbers, IsText, TakesText}
use Rattle.capnp_uses.proofs.BuiltRootViewLemmas.{root_is_read, root_accepts}
use Rattle.std.proofs.lemmas.List.{append_cancel_right}
use Rattle.capnp_uses.proofs.building.text_is_read_back.Goals as goal

pub returns : goal.returns
returns g c =
    let there = root_is_read _ (numbers 2 (c.args.bytes.now ++ 0 ∷ [])) (λ form. IsText form c.in_ok-text.text.bytes.now)
    c.in_ok-write_text.ensures.has_root c.in_ok-text.ensures.returned in
    let same = append_cancel_right c.args.bytes.now c.in_ok-text.text.bytes.now (0 ∷ []) there.1 in
    record { has_root = c.in_ok-write_text.ensures.has_root; back = search rules; errors = tt }

pub returns-in_err-text-clause-errors : goal.returns-in_err-text-clause-errors
returns-in_err-text-clause-errors g c =
    let never = c.in_err-text.ensures.found refl (root_accepts _ (numbers 2 (c.args.bytes.now ++ 0 ∷ [])) TakesText c.in_ok-write_text.ensures.has_root (refl, (c.args.bytes.now, refl))) in
    absurd (cc)
