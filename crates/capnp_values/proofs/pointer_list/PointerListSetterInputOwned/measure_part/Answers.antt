-- The words of a list are the words of its tree.
use Rattle.capnp_values.specs.Lists.{IsPointerListTree, PointerListError}
use Rattle.capnp_values.proofs.values.MeasureWithinBoundElseErrorLemmas.{part_returned, part_found, part_exact}
use Rattle.capnp_values.proofs.pointer_list.PointerListSetterInputOwned.measure_part.Goals as goal

pub returns-clause-returned : goal.returns-clause-returned
returns-clause-returned g c =
    part_returned (λ t. IsPointerListTree g.V.SetterInput.has_tree c.args.self.now.items.now t) (λ k. PointerListError g.V.SetterInput.has_tree g.V.SetterInput.fails c.args.self.now.items.now k) c.args.canonical c.in_ok-words.words c.checked_part_words.result c.in_ok-words.ensures.returned c.checked_part_words.ensures

pub returns-clause-found : goal.returns-clause-found
returns-clause-found g c =
    part_found (λ t. IsPointerListTree g.V.SetterInput.has_tree c.args.self.now.items.now t) (λ k. PointerListError g.V.SetterInput.has_tree g.V.SetterInput.fails c.args.self.now.items.now k) c.args.canonical c.in_ok-words.words c.measure_list.result c.checked_part_words.result c.in_ok-words.was c.measure_list.ensures c.checked_part_words.ensures

pub returns-clause-exact : goal.returns-clause-exact
returns-clause-exact g c =
    part_exact (λ t. IsPointerListTree g.V.SetterInput.has_tree c.args.self.now.items.now t) (λ k. PointerListError g.V.SetterInput.has_tree g.V.SetterInput.fails c.args.self.now.items.now k) c.args.canonical c.in_ok-words.words c.measure_list.result c.checked_part_words.result c.in_ok-words.was c.measure_list.ensures c.checked_part_words.ensures
