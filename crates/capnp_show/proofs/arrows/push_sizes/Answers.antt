-- The sizes are written one after the other.
use Rattle.std.specs.Fmt.{digits}
use Rattle.capnp_show.proofs.arrows.push_sizes.Goals as goal

pub returns : goal.returns
unfolding digits
returns c = c.write.ensures.bytes
