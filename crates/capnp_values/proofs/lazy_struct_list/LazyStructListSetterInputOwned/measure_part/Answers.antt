-- The words of a list are the words of its tree.
use Rattle.capnp_values.specs.StructLists.{IsStructListTree, StructListError}
use Rattle.capnp_values.proofs.values.MeasureWithinBoundElseErrorLemmas.{part_returned, part_found, part_exact}
use Rattle.capnp_values.proofs.lazy_struct_list.LazyStructListSetterInputOwned.measure_part.Goals as goal

pub returns-clause-returned : goal.returns-clause-returned
returns-clause-returned g c =
    part_returned (λ t. IsStructListTree (g.S.StructSource.words c.args.self.now.source) (g.S.StructSource.has_trees c.args.self.now.source) g.S.Value.Element.data_words g.S.Value.Fields.size (g.S.StructSource.items c.args.self.now.source) t) (λ k. StructListError (g.S.StructSource.has_trees c.args.self.now.source) (g.S.StructSource.fails c.args.self.now.source) g.S.Value.Element.data_words g.S.Value.Fields.size (g.S.StructSource.items c.args.self.now.source) k) c.args.canonical c.in_ok-words.words c.checked_part_words.result c.in_ok-words.ensures.returned c.checked_part_words.ensures

pub returns-clause-found : goal.returns-clause-found
returns-clause-found g c =
    part_found (λ t. IsStructListTree (g.S.StructSource.words c.args.self.now.source) (g.S.StructSource.has_trees c.args.self.now.source) g.S.Value.Element.data_words g.S.Value.Fields.size (g.S.StructSource.items c.args.self.now.source) t) (λ k. StructListError (g.S.StructSource.has_trees c.args.self.now.source) (g.S.StructSource.fails c.args.self.now.source) g.S.Value.Element.data_words g.S.Value.Fields.size (g.S.StructSource.items c.args.self.now.source) k) c.args.canonical c.in_ok-words.words c.measure_list.result c.checked_part_words.result c.in_ok-words.was c.measure_list.ensures c.checked_part_words.ensures

pub returns-clause-exact : goal.returns-clause-exact
returns-clause-exact g c =
    part_exact (λ t. IsStructListTree (g.S.StructSource.words c.args.self.now.source) (g.S.StructSource.has_trees c.args.self.now.source) g.S.Value.Element.data_words g.S.Value.Fields.size (g.S.StructSource.items c.args.self.now.source) t) (λ k. StructListError (g.S.StructSource.has_trees c.args.self.now.source) (g.S.StructSource.fails c.args.self.now.source) g.S.Value.Element.data_words g.S.Value.Fields.size (g.S.StructSource.items c.args.self.now.source) k) c.args.canonical c.in_ok-words.words c.measure_list.result c.checked_part_words.result c.in_ok-words.was c.measure_list.ensures c.checked_part_words.ensures
