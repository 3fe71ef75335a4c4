-- A pointer of a list is as many words after the first as its index.
use Rattle.std.proofs.Common.{◌<◌, Option, sym, ap, arith, length}
use Rattle.capnp_layout.specs.Prelude.{message_of, places}
use Rattle.capnp_wire.specs.Prelude.{limit_of, Pointer}
use Rattle.capnp_layout.specs.declared.place.Place.{Place}
use Rattle.capnp_layout.proofs.objects.SectionWordByIndexLemmas.{length-places, place_within}
use Rattle.capnp_wire.proofs.any_pointer_list.reader.Reader.get.Goals as goal

pub overflow_add-result : goal.overflow_add-result
overflow_add-result g c =
    let self = c.args.self.now in
    let fewer : c.args.index < length (places self.first.segment self.first.word self.count) = c.requires in
    omega (arith, fewer, length-places self.first.segment self.first.word self.count, self.bound)

pub returns : goal.returns
returns g c =
    let self = c.args.self.now in
    let fewer : c.args.index < length (places self.first.segment self.first.word self.count) = c.requires in
    let within : c.args.index < self.count = omega (arith, fewer, length-places self.first.segment self.first.word self.count) in
    let pointer : Option Place → Pointer = λ place. record {
      message = message_of (g.S.ReaderSegments.segments self.segments.now);
      place = place;
      nesting = self.nesting;
      limit = limit_of self.limiter;
    } in
    ap pointer (sym (place_within self.first.segment self.first.word self.count c.args.index within))
