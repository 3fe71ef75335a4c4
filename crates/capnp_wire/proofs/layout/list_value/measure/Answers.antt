-- The walk over a list's pointers counts the words after these.
use Rattle.std.proofs.Common.{◌+◌, refl, arith}
use Rattle.capnp_layout.specs.Prelude.{message_of, places, pointers}
use Rattle.capnp_wire.specs.Prelude.{counted as counted_by}
use Rattle.capnp_wire.proofs.views.ListValueMeasureLemmas.{own_pointers, list_measured}
use Rattle.capnp_wire.proofs.layout.list_value.measure.Goals as goal

pub returns : goal.returns
returns g c =
    let m = message_of (g.S.ReaderSegments.segments c.args.segments.now) in
    let first = c.args.first in
    let found = rw (c.count.ensures.left, c.new-walk.ensures.left) at c.in_ok-walk_list.ensures.found in
    let own_counted = rw c.new-walk.ensures.words at c.count.ensures.words in
    let counted = rw (← c.words.ensures) at found.counted (0 + c.args.count) (own_counted 0 refl) in
    list_measured pointers m (places first.segment first.word c.args.count) c.args.nesting c.args.limit _ c.args.canonical (counted_by c.count.new.self) _ c.args.count
    (own_pointers m first c.args.count c.args.canonical c.requires.few) found (0 + c.args.count + found.words) (omega arith) c.checked_walk.result
    (c.checked_walk.ensures (0 + c.args.count + found.words) counted)
