-- The words of a struct are the words of its tree.
use Rattle.std.proofs.Common.{length}
use Rattle.capnp_values.specs.Structs.{IsStructTree, StructError}
use Rattle.capnp_values.proofs.values.MeasureWithinBoundElseErrorLemmas.{part_returned, part_found, part_exact}
use Rattle.capnp_values.proofs.struct_value.StructValueSetterInputOwned.measure_part.Goals as goal

pub returns-clause-returned : goal.returns-clause-returned
returns-clause-returned g c =
    part_returned (λ t. IsStructTree c.args.self.now.words g.F.Fields.size (g.F.Fields.has_trees c.args.self.now.fields) t) (λ k. StructError (length c.args.self.now.words) g.F.Fields.size (g.F.Fields.fails c.args.self.now.fields) k) c.args.canonical c.in_ok-words.words c.checked_part_words.result c.in_ok-words.ensures.returned c.checked_part_words.ensures

pub returns-clause-found : goal.returns-clause-found
returns-clause-found g c =
    part_found (λ t. IsStructTree c.args.self.now.words g.F.Fields.size (g.F.Fields.has_trees c.args.self.now.fields) t) (λ k. StructError (length c.args.self.now.words) g.F.Fields.size (g.F.Fields.fails c.args.self.now.fields) k) c.args.canonical c.in_ok-words.words c.measure_struct.result c.checked_part_words.result c.in_ok-words.was c.measure_struct.ensures c.checked_part_words.ensures

pub returns-clause-exact : goal.returns-clause-exact
returns-clause-exact g c =
    part_exact (λ t. IsStructTree c.args.self.now.words g.F.Fields.size (g.F.Fields.has_trees c.args.self.now.fields) t) (λ k. StructError (length c.args.self.now.words) g.F.Fields.size (g.F.Fields.fails c.args.self.now.fields) k) c.args.canonical c.in_ok-words.words c.measure_struct.result c.checked_part_words.result c.in_ok-words.was c.measure_struct.ensures c.checked_part_words.ensures
