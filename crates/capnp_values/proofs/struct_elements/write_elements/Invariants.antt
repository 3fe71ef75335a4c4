-- The structs so far are written.
use Rattle.std.proofs.Common.{◌+◌, ◌*◌, length}
use Rattle.capnp_values.proofs.struct_lists.ElementWriteLemmas.{ElementsWritten}
use Rattle.capnp_values.proofs.struct_elements.write_elements.Given as goal

abbrev pub invariant-loop-index : goal.invariant-loop-index
invariant-loop-index g l =
    ElementsWritten (g.S.StructSource.words l.items) (g.S.StructSource.has_trees l.items) l.canonical l.kept.data_words l.kept.pointers g.S.Value.Fields.size (g.S.StructSource.items l.items) l.first
    (l.first + length (g.S.StructSource.items l.items) * (l.kept.data_words + l.kept.pointers)) l.index l.at l.next l.fn.block l.block
