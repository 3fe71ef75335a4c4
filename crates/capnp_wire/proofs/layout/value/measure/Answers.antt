-- What a walk counts is measured.
use Rattle.std.proofs.Common.{◌+◌, refl}
use Rattle.capnp_layout.specs.Prelude.{message_of}
use Rattle.capnp_wire.specs.Prelude.{counted as counted_by}
use Rattle.capnp_wire.proofs.views.WalkCountIsMeasureLemmas.{result_fits}
use Rattle.capnp_wire.proofs.layout.value.measure.Goals as goal

pub returns : goal.returns
returns g c =
    let m = message_of (g.S.ReaderSegments.segments c.args.segments.now) in
    let found = rw (c.new-walk.ensures.left, c.new-walk.ensures.words) at c.in_ok-walk.ensures.found in
    let all_counted = rw (← c.words.ensures) at found.counted 0 refl in
    record {
      returned = result_fits m c.args.place c.args.nesting c.args.limit c.walk.new.self.left c.args.canonical (counted_by c.walk.new.self) found c.checked_walk.result (c.checked_walk.ensures
          (0 + found.words) all_counted);
    }
