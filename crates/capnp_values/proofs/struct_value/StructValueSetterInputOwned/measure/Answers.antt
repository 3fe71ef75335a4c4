-- The words of a struct are the words of its tree.
use Rattle.std.proofs.Common.{length}
use Rattle.capnp_values.specs.Structs.{IsStructTree, StructError}
use Rattle.capnp_values.proofs.values.MeasureWithinBoundElseErrorLemmas.{whole_returned, whole_found, whole_exact}
use Rattle.capnp_values.proofs.struct_value.StructValueSetterInputOwned.measure.Goals as goal

pub returns-clause-returned : goal.returns-clause-returned
returns-clause-returned g c =
    whole_returned (λ t. IsStructTree c.args.self.now.words g.F.Fields.size (g.F.Fields.has_trees c.args.self.now.fields) t) (λ k. StructError (length c.args.self.now.words) g.F.Fields.size (g.F.Fields.fails c.args.self.now.fields) k) c.args.canonical c.in_ok-words.words c.checked_word_count.result c.in_ok-words.ensures.returned c.checked_word_count.ensures

pub returns-clause-found : goal.returns-clause-found
returns-clause-found g c =
    whole_found (λ t. IsStructTree c.args.self.now.words g.F.Fields.size (g.F.Fields.has_trees c.args.self.now.fields) t) (λ k. StructError (length c.args.self.now.words) g.F.Fields.size (g.F.Fields.fails c.args.self.now.fields) k) c.args.canonical c.in_ok-words.words c.measure_struct.result c.checked_word_count.result c.in_ok-words.was c.measure_struct.ensures c.checked_word_count.ensures

pub returns-clause-exact : goal.returns-clause-exact
returns-clause-exact g c =
    whole_exact (λ t. IsStructTree c.args.self.now.words g.F.Fields.size (g.F.Fields.has_trees c.args.self.now.fields) t) (λ k. StructError (length c.args.self.now.words) g.F.Fields.size (g.F.Fields.fails c.args.self.now.fields) k) c.args.canonical c.in_ok-words.words c.measure_struct.result c.checked_word_count.result c.in_ok-words.was c.measure_struct.ensures c.checked_word_count.ensures
