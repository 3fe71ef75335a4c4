-- What is measured of the values so far.
use Rattle.capnp_values.proofs.lists.ItemMeasureLemmas.{ItemsMeasured}
use Rattle.capnp_values.proofs.items.measure_items.Given as goal

abbrev pub invariant-loop-index : goal.invariant-loop-index
invariant-loop-index g l = ItemsMeasured (g.S.ValueSource.has_tree l.items) (g.S.ValueSource.fails l.items) l.canonical (g.S.ValueSource.items l.items) l.index l.words
