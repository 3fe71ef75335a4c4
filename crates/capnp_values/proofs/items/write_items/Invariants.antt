-- The values so far are written.
use Rattle.capnp_values.proofs.lists.ItemWriteLemmas.{ItemsWritten}
use Rattle.capnp_values.proofs.items.write_items.Given as goal

abbrev pub invariant-loop-index : goal.invariant-loop-index
invariant-loop-index g l = ItemsWritten (g.S.ValueSource.has_tree l.items) l.canonical (g.S.ValueSource.items l.items) l.first l.index l.next l.fn.block l.block
