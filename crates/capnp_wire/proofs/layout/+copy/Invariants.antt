-- How far the copying of what an object's pointers point to has come.
use Rattle.std.proofs.Common.{◌+◌, ◌*◌, length}
use Rattle.capnp_layout.specs.Prelude.{words_of, message_of, places_in}
use Rattle.capnp_wire.proofs.layouts.TreeCopySequenceLemmas.{Copying}
use Rattle.capnp_wire.proofs.layout.+copy.Given as goal

abbrev pub decreases-copy::copy_object : goal.decreases-copy::copy_object
decreases-copy::copy_object g l = 5 * l.nesting

abbrev pub decreases-copy::copy_target : goal.decreases-copy::copy_target
decreases-copy::copy_target g l = 5 * l.nesting + 1

abbrev pub decreases-copy_pointers::copy_by_cursor : goal.decreases-copy_pointers::copy_by_cursor
decreases-copy_pointers::copy_by_cursor g l = 5 * l.nesting + 2

abbrev pub decreases-copy_pointers::copy_run : goal.decreases-copy_pointers::copy_run
decreases-copy_pointers::copy_run g l = 5 * l.nesting + 3

abbrev pub decreases-copy_pointers::copy_pointers : goal.decreases-copy_pointers::copy_pointers
decreases-copy_pointers::copy_pointers g l = 5 * l.nesting + 4

abbrev pub invariant-copy_pointers::copy_by_cursor-pointers : goal.invariant-copy_pointers::copy_by_cursor-pointers
invariant-copy_pointers::copy_by_cursor-pointers g l =
    Copying (message_of (g.S.ReaderSegments.segments l.source.segments.now)) (words_of l.segment) l.nesting l.source.canonical l.fn.cursor l.fn.next (g.T.BlockItem.as_words l.fn.block) l.cursor l.free
    (g.T.BlockItem.as_words l.block)

abbrev pub decreases-copy_pointers::copy_by_cursor-pointers : goal.decreases-copy_pointers::copy_by_cursor-pointers
decreases-copy_pointers::copy_by_cursor-pointers g l = length (places_in l.cursor.from)
