-- The words of a list are the words of its tree.
use Rattle.capnp_values.specs.Lists.{IsPointerListTree, PointerListError}
use Rattle.capnp_values.proofs.values.MeasureWithinBoundElseErrorLemmas.{whole_returned, whole_found, whole_exact}
use Rattle.capnp_values.proofs.lazy_pointer_list.LazyPointerListSetterInputOwned.measure.Goals as goal

pub returns-clause-returned : goal.returns-clause-returned
returns-clause-returned g c =
    whole_returned (λ t. IsPointerListTree (g.S.ValueSource.has_tree c.args.self.now.source) (g.S.ValueSource.items c.args.self.now.source) t) (λ k. PointerListError (g.S.ValueSource.has_tree c.args.self.now.source) (g.S.ValueSource.fails c.args.self.now.source) (g.S.ValueSource.items c.args.self.now.source) k) c.args.canonical c.in_ok-words.words c.checked_word_count.result c.in_ok-words.ensures.returned c.checked_word_count.ensures

pub returns-clause-found : goal.returns-clause-found
returns-clause-found g c =
    whole_found (λ t. IsPointerListTree (g.S.ValueSource.has_tree c.args.self.now.source) (g.S.ValueSource.items c.args.self.now.source) t) (λ k. PointerListError (g.S.ValueSource.has_tree c.args.self.now.source) (g.S.ValueSource.fails c.args.self.now.source) (g.S.ValueSource.items c.args.self.now.source) k) c.args.canonical c.in_ok-words.words c.measure_list.result c.checked_word_count.result c.in_ok-words.was c.measure_list.ensures c.checked_word_count.ensures

pub returns-clause-exact : goal.returns-clause-exact
returns-clause-exact g c =
    whole_exact (λ t. IsPointerListTree (g.S.ValueSource.has_tree c.args.self.now.source) (g.S.ValueSource.items c.args.self.now.source) t) (λ k. PointerListError (g.S.ValueSource.has_tree c.args.self.now.source) (g.S.ValueSource.fails c.args.self.now.source) (g.S.ValueSource.items c.args.self.now.source) k) c.args.canonical c.in_ok-words.words c.measure_list.result c.checked_word_count.result c.in_ok-words.was c.measure_list.ensures c.checked_word_count.ensures
