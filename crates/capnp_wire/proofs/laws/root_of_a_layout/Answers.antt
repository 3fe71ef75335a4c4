-- The law, as LayoutReadBackLemmas proves it.
use Rattle.capnp_wire.proofs.layouts.LayoutReadBackLemmas.{root_of_layout}
use Rattle.capnp_wire.proofs.laws.root_of_a_layout.Goals as goal

pub returns : goal.returns
returns c = root_of_layout
