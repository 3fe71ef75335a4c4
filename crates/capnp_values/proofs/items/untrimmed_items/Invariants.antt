-- What is measured of the values so far, untrimmed.
use Rattle.std.proofs.Common.{false}
use Rattle.capnp_values.proofs.lists.ItemMeasureLemmas.{ItemsMeasured}
use Rattle.capnp_values.proofs.items.untrimmed_items.Given as goal

abbrev pub invariant-loop-index : goal.invariant-loop-index
invariant-loop-index g l = ItemsMeasured (g.S.ValueSource.has_tree l.items) (g.S.ValueSource.fails l.items) false (g.S.ValueSource.items l.items) l.index (record { untrimmed = l.words; output = l.words })
