-- A pointer of a list is as many steps after the first as its index.
use Rattle.std.proofs.Common.{◌<◌, Option, sym, ap, arith, length}
use Rattle.capnp_layout.specs.Prelude.{message_of}
use Rattle.capnp_wire.specs.Prelude.{limit_of, Pointer, stepped_places}
use Rattle.capnp_layout.specs.declared.place.Place.{Place}
use Rattle.capnp_wire.proofs.views.UpgradedListReadAsPointersLemmas.{length-stepped_places, stepped_within, step_ends}
use Rattle.capnp_wire.proofs.upgraded.pointer_list.PointerList.get.Goals as goal

pub overflow_mul-words_before : goal.overflow_mul-words_before
overflow_mul-words_before g c =
    let self = c.args.self.now in
    let fewer : c.args.index < length (stepped_places self.first.segment self.first.word self.step self.count) = c.requires in
    let within : c.args.index < self.count = omega (arith, fewer, length-stepped_places self.first.segment self.first.word self.step self.count) in
    omega (arith, step_ends c.args.index self.count self.step within, self.bound)

pub overflow_add-result : goal.overflow_add-result
overflow_add-result g c =
    let self = c.args.self.now in
    let fewer : c.args.index < length (stepped_places self.first.segment self.first.word self.step self.count) = c.requires in
    let within : c.args.index < self.count = omega (arith, fewer, length-stepped_places self.first.segment self.first.word self.step self.count) in
    omega (arith, step_ends c.args.index self.count self.step within, self.bound)

pub returns : goal.returns
returns g c =
    let self = c.args.self.now in
    let fewer : c.args.index < length (stepped_places self.first.segment self.first.word self.step self.count) = c.requires in
    let within : c.args.index < self.count = omega (arith, fewer, length-stepped_places self.first.segment self.first.word self.step self.count) in
    let pointer : Option Place → Pointer = λ place. record {
      message = message_of (g.S.ReaderSegments.segments self.segments.now);
      place = place;
      nesting = self.nesting;
      limit = limit_of self.limiter;
    } in
    ap pointer (sym (stepped_within self.first.segment self.first.word self.step self.count c.args.index within))
