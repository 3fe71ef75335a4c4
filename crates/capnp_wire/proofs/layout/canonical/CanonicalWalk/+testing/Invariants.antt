-- How far a walk over the pointers of an object has come; all of them are before the next free
-- word.
use Rattle.std.proofs.Common.{◌≡◌, ◌+◌, ◌*◌, ◌≤◌, length}
use Rattle.capnp_layout.specs.Prelude.{words_of, places_in, end_of}
use Rattle.capnp_wire.proofs.walks.CanonicalTestProgressLemmas.{PassesSoFar}
use Rattle.capnp_wire.proofs.layout.canonical.CanonicalWalk.+testing.Given as goal

abbrev pub decreases-test : goal.decreases-test
decreases-test g l = 2 * l.nesting

abbrev pub decreases-test_pointers : goal.decreases-test_pointers
decreases-test_pointers g l = 2 * l.nesting + 1

abbrev pub invariant-test_pointers-pointers : goal.invariant-test_pointers-pointers
invariant-test_pointers-pointers g l =
    PassesSoFar (words_of l.segment) (places_in l.fn.pointers) (places_in l.pointers) l.nesting l.fn.self.walk.left l.self.walk.left l.fn.self.next l.self.next
    × (l.pointers.next.segment ≡ 0) × (end_of l.pointers ≤ l.self.next)

abbrev pub decreases-test_pointers-pointers : goal.decreases-test_pointers-pointers
decreases-test_pointers-pointers g l = length (places_in l.pointers)
