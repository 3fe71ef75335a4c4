-- What the structs so far need.
use Rattle.capnp_values.proofs.struct_lists.CanonicalElementSizeLemmas.{NeededSoFar}
use Rattle.capnp_values.proofs.struct_elements.kept_by_each.Given as goal

abbrev pub invariant-loop-index : goal.invariant-loop-index
invariant-loop-index g l = NeededSoFar (g.S.StructSource.words l.items) (g.S.StructSource.has_trees l.items) g.S.Value.Fields.size (g.S.StructSource.items l.items) l.index l.kept.data_words l.kept.pointers
