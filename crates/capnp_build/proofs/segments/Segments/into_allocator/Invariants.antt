-- The segments that are left are out, and what else was; those that are back were returned.
use Rattle.std.proofs.Common.{◌≡◌, List, [], MatchOption, vec_len}
use Rattle.std.specs.Prelude.{⊤}
use Rattle.capnp_build.specs.Prelude.{spaces_of, pairs, AreOut, ReturnsEach, Out}
use Rattle.capnp_build.proofs.segments.Segments.into_allocator.Given as goal

abbrev pub invariant-loop-part : goal.invariant-loop-part
invariant-loop-part g l = record {
  alone : MatchOption l.first (l.others.items ≡ []) (λ _. ⊤);
  out : AreOut (g.A.Allocator.out l.allocator) (spaces_of l.first l.others.items);
  others : (rest : List Out) → g.A.Allocator.out l.fn.self.allocator (pairs l.fn.self.spaces rest) → g.A.Allocator.out l.allocator (pairs (spaces_of l.first l.others.items) rest);
  same : g.A.Allocator.same l.fn.self.allocator l.allocator;
  returned : (last : g.row.A.Denot) → ReturnsEach g.A.Allocator.returns (spaces_of l.first l.others.items) l.allocator last
      → ReturnsEach g.A.Allocator.returns l.fn.self.spaces l.fn.self.allocator last;
}

abbrev pub decreases-loop-part : goal.decreases-loop-part
decreases-loop-part g l = vec_len l.others
