-- The words of what the structs so far point to.
use Rattle.std.proofs.Common.{false}
use Rattle.capnp_values.proofs.struct_lists.ElementMeasureLemmas.{ElementsMeasured}
use Rattle.capnp_values.proofs.struct_elements.untrimmed_elements.Given as goal

abbrev pub invariant-loop-index : goal.invariant-loop-index
invariant-loop-index g l =
    ElementsMeasured (g.S.StructSource.words l.items) (g.S.StructSource.has_trees l.items) (g.S.StructSource.fails l.items) false g.S.Value.Element.data_words g.S.Value.Fields.size (g.S.StructSource.items l.items) l.index
    (record { untrimmed = l.words; output = l.words })
