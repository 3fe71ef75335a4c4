-- The list is of these numbers; where no list has the code, or as many numbers not as many bytes, nothing is added.
use Rattle.std.proofs.Common.{◌∙◌, ℕ, sym, ap, subst, arith}
use Rattle.capnp_layout.specs.Prelude.{code_of}
use Rattle.capnp_orphans.specs.Sized.{FillBytes}
use Rattle.capnp_c.proofs.in_place.ListByElementKindLemmas.{few_codes}
use Rattle.capnp_c.proofs.ListArgumentsAddedLemmas.{nothing_adds, fitting_adds, same_numbers}
use Rattle.capnp_c.proofs.building.lists.linsjoar_add_numbers.Goals as goal

pub returns-in_default : goal.returns-in_default
returns-in_default c = nothing_adds _ _ _ _ c.args.builder.now c.args.region.now (λ fits. absurd (omega (arith, fits.0, c.in_default.ensures)))

pub returns-in-None : goal.returns-in-None
returns-in-None c =
    nothing_adds _ _ _ _ c.args.builder.now c.args.region.now
    (λ fits. absurd (c.in-None.ensures (subst (λ (n : ℕ). FillBytes n c.args.count c.args.elements.now) (sym c.in-Some.ensures) fits.1)))

pub returns-in-Some-new : goal.returns-in-Some-new
returns-in-Some-new c =
    let known = c.in-Some-new.ensures in
    let list = c.in-Some-new.numbers in
    fitting_adds _ _ _ _ _ _ _ _ _ _ (omega (arith, few_codes c.in-Some.size, c.in-Some.ensures), subst (λ (n : ℕ). FillBytes n c.args.count c.args.elements.now) c.in-Some.ensures known.0)
    (same_numbers c.args.code (code_of c.in-Some-new.numbers.size) c.args.count c.in-Some-new.numbers.count c.args.elements.now c.in-Some-new.numbers.bytes.now _ _ _ _ _ _ (ap code_of known.3 ∙ c.in-Some.ensures) known.2
    known.1 c.add.ensures)
