-- A new object is one tree, which is measured.
use Rattle.std.proofs.Common.{◌≡◌, ap, ◌∙◌, sym, Ok}
use Rattle.capnp_layout.specs.Prelude.{none, tree}
use Rattle.capnp_wire.proofs.views.UniqueValueTreeAndMeasureLemmas.{IsOne, measured_found, measured_exactly}
use Rattle.capnp_build.specs.Prelude.{zero_form, words_of_body}
use Rattle.capnp_build.specs.declared.object.NewBody.{NewBody}
use Rattle.capnp_build.proofs.layouts.ZeroBlockIsNewObjectLemmas.{new_object_words}
use Rattle.capnp_build.proofs.new_object.NewObjectSetterInputOwned.measure.Goals as goal

one_new : (body : NewBody) → IsOne (λ trees. trees ≡ tree (zero_form body) none none) (λ kind. ⊥)
one_new body = record {
  same_tree = λ a b p q. p ∙ sym q;
  same_error = λ a b x y. absurd x;
  apart = λ kind trees x y. x;
}

pub returns : goal.returns
returns c =
    let has = new_object_words c.args.self.now c.args.canonical c.words.result c.output.ensures.whole (c.words.ensures.words ∙ ap words_of_body c.output.ensures.body) c.words.ensures.bound in
    let one = one_new c.args.self.now in record {
      returned = has;
      found = measured_found _ _ one c.args.canonical (Ok c.words.result) has;
      exact = measured_exactly _ _ one c.args.canonical (Ok c.words.result) has;
    }
