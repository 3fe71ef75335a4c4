-- No segment is out yet.
use Rattle.std.proofs.Common.{rules}
use Rattle.capnp_build.proofs.segments.Segments.new.Goals as goal

pub invariant_of-result : goal.invariant_of-result
invariant_of-result g c = (search rules, g.met.A.Allocator.accounts c.args.allocator, search rules, search rules)
