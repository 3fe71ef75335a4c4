-- How far a walk over the pointers of an object has come.
use Rattle.std.proofs.Common.{◌+◌, ◌-◌, ◌*◌, length}
use Rattle.capnp_layout.specs.Prelude.{words_of, message_of, places_in}
use Rattle.capnp_wire.specs.Prelude.{counted}
use Rattle.capnp_wire.proofs.walks.WalkProgressLemmas.{Going}
use Rattle.capnp_wire.proofs.layout.walk.Walk.+walk.Given as goal

abbrev pub decreases-walk_object : goal.decreases-walk_object
decreases-walk_object g l = 4 * l.nesting

abbrev pub decreases-walk_run : goal.decreases-walk_run
decreases-walk_run g l = 4 * l.nesting + 3

abbrev pub decreases-walk_pointers : goal.decreases-walk_pointers
decreases-walk_pointers g l = 4 * l.nesting + 2

abbrev pub decreases-next_parent : goal.decreases-next_parent
decreases-next_parent g l = 4 * l.nesting + 1

abbrev pub invariant-next_parent-pointers : goal.invariant-next_parent-pointers
invariant-next_parent-pointers g l =
    Going (message_of (g.S.ReaderSegments.segments l.segments)) (words_of l.segment) l.canonical l.fn.pointers l.pointers l.nesting l.fn.self.left l.self.left (counted l.fn.self) (counted l.self)

abbrev pub decreases-next_parent-pointers : goal.decreases-next_parent-pointers
decreases-next_parent-pointers g l = length (places_in l.pointers)

abbrev pub invariant-walk_pointers-parents : goal.invariant-walk_pointers-parents
invariant-walk_pointers-parents g l =
    Going (message_of (g.S.ReaderSegments.segments l.segments)) (words_of l.segment) l.canonical l.fn.pointers l.pointers l.nesting l.fn.self.left l.self.left (counted l.fn.self) (counted l.self)

abbrev pub decreases-walk_pointers-parents : goal.decreases-walk_pointers-parents
decreases-walk_pointers-parents g l = length (places_in l.pointers)

abbrev pub invariant-walk_pointers-children : goal.invariant-walk_pointers-children
invariant-walk_pointers-children g l =
    Going (message_of (g.S.ReaderSegments.segments l.segments)) (words_of l.parent.segment.now) l.canonical l.initial.below l.below (l.nesting - 1) l.initial.self.left l.self.left
    (counted l.initial.self) (counted l.self)

abbrev pub decreases-walk_pointers-children : goal.decreases-walk_pointers-children
decreases-walk_pointers-children g l = length (places_in l.below)
