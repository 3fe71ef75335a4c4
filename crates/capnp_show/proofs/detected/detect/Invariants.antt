-- What is at the front was read of the input.
use Rattle.std.proofs.Common.{vec_items}
use Rattle.capnp_show.specs.Fronts.{Takes}
use Rattle.capnp_show.proofs.detected.detect.Given as goal

abbrev pub invariant-loop : goal.invariant-loop
invariant-loop g l =
    Takes (vec_items l.initial.front) (vec_items l.front) (g.D.Read.remaining l.initial.device) (g.D.Read.remaining l.device)
