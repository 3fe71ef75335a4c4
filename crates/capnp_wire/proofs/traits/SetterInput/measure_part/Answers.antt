-- A part is measured untrimmed, and, where the canonical form is written, in that form, too.
use Rattle.std.proofs.Common.{Ok, ap}
use Rattle.capnp_wire.specs.declared.traits.TreeWords.{TreeWords}
use Rattle.capnp_wire.proofs.views.ValueAsPartTwoMeasuresLemmas.{untrimmed_words, untrimmed_found, both_returned, both_found}
use Rattle.capnp_wire.proofs.traits.SetterInput.measure_part.Goals as goal

pub returns-in_err-untrimmed-clause-found : goal.returns-in_err-untrimmed-clause-found
returns-in_err-untrimmed-clause-found g c words part =
    let found = c.measure.ensures.found words.untrimmed (untrimmed_words (g.Self.SetterInput.has_tree c.args.self.now) c.args.canonical words part) in
    let was = c.in_err-untrimmed.was in
    absurd (cc)

pub returns-then-not-canonical-clause-found : goal.returns-then-not-canonical-clause-found
returns-then-not-canonical-clause-found g c words part =
    ap (λ (w : TreeWords). Ok w)
    (untrimmed_found (g.Self.SetterInput.has_tree c.args.self.now) c.args.canonical c.measure.result c.in_ok-untrimmed.field-0 words c.in_ok-untrimmed.was c.measure.ensures.found c.if-not-canonical.true part)

pub returns-clause-returned : goal.returns-clause-returned
returns-clause-returned g c =
    both_returned (g.Self.SetterInput.has_tree c.args.self.now) c.args.canonical c.in_ok-untrimmed.field-0 c.unwrap_or-output.result c.measure-2.result c.if-not-canonical.false
    c.in_ok-untrimmed.ensures.returned c.measure-2.ensures.found c.unwrap_or-output.ensures

pub returns-clause-found : goal.returns-clause-found
returns-clause-found g c words part =
    ap (λ (w : TreeWords). Ok w)
    (both_found (g.Self.SetterInput.has_tree c.args.self.now) c.args.canonical c.measure.result c.measure-2.result c.in_ok-untrimmed.field-0 c.unwrap_or-output.result words c.in_ok-untrimmed.was
    c.measure.ensures.found c.if-not-canonical.false c.measure-2.ensures.found c.unwrap_or-output.ensures part)
