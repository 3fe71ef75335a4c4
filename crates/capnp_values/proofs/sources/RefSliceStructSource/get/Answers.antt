-- The struct at this index.
use Rattle.std.proofs.Common.{refl}
use Rattle.capnp_values.proofs.values.LazyValueAsDeclaredLemmas.{itself, value_is_at}
use Rattle.capnp_values.proofs.sources.RefSliceStructSource.get.Goals as goal

pub returns : goal.returns
returns g c = (
  c.new.result.value.now,
  value_is_at c.args.self.now.now c.args.index c.new.result.value.now c.index-structs-index.result c.new.ensures c.index-structs-index.is,
  refl,
  itself g.E.Fields.has_trees g.E.Fields.fails c.new.result.value.now,
)
