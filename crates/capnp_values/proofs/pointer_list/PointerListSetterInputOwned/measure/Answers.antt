-- The words of a list are the words of its tree.
use Rattle.capnp_values.specs.Lists.{IsPointerListTree, PointerListError}
use Rattle.capnp_values.proofs.values.MeasureWithinBoundElseErrorLemmas.{whole_returned, whole_found, whole_exact}
use Rattle.capnp_values.proofs.pointer_list.PointerListSetterInputOwned.measure.Goals as goal

pub returns-clause-returned : goal.returns-clause-returned
returns-clause-returned g c =
    whole_returned (λ t. IsPointerListTree g.V.SetterInput.has_tree c.args.self.now.items.now t) (λ k. PointerListError g.V.SetterInput.has_tree g.V.SetterInput.fails c.args.self.now.items.now k) c.args.canonical c.in_ok-words.words c.checked_word_count.result c.in_ok-words.ensures.returned c.checked_word_count.ensures

pub returns-clause-found : goal.returns-clause-found
returns-clause-found g c =
    whole_found (λ t. IsPointerListTree g.V.SetterInput.has_tree c.args.self.now.items.now t) (λ k. PointerListError g.V.SetterInput.has_tree g.V.SetterInput.fails c.args.self.now.items.now k) c.args.canonical c.in_ok-words.words c.measure_list.result c.checked_word_count.result c.in_ok-words.was c.measure_list.ensures c.checked_word_count.ensures

pub returns-clause-exact : goal.returns-clause-exact
returns-clause-exact g c =
    whole_exact (λ t. IsPointerListTree g.V.SetterInput.has_tree c.args.self.now.items.now t) (λ k. PointerListError g.V.SetterInput.has_tree g.V.SetterInput.fails c.args.self.now.items.now k) c.args.canonical c.in_ok-words.words c.measure_list.result c.checked_word_count.result c.in_ok-words.was c.measure_list.ensures c.checked_word_count.ensures
