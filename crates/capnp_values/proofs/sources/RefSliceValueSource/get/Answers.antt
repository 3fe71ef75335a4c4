-- The value at this index.
use Rattle.capnp_values.proofs.values.LazyValueAsDeclaredLemmas.{itself, value_is_at}
use Rattle.capnp_values.proofs.sources.RefSliceValueSource.get.Goals as goal

pub returns : goal.returns
returns g c = (
  c.new.result.value.now,
  value_is_at c.args.self.now.now c.args.index c.new.result.value.now c.index-values-index.result c.new.ensures c.index-values-index.is,
  itself g.V.SetterInput.has_tree g.V.SetterInput.fails c.new.result.value.now,
)
