-- A pointer of a struct is after the data words; past the last one it has no place.
use Rattle.std.proofs.Common.{◌+◌, ◌<◌, ◌≤◌, Option, sym, ap, ◌∙◌, arith}
use Rattle.capnp_layout.specs.Prelude.{message_of}
use Rattle.capnp_wire.specs.Prelude.{limit_of, Pointer}
use Rattle.capnp_layout.specs.declared.place.Place.{Place}
use Rattle.capnp_layout.proofs.objects.SectionWordByIndexLemmas.{place_within, no_place_past}
use Rattle.capnp_wire.proofs.any_struct.reader.StructReader.get_pointer.Goals as goal
use Rattle.capnp_wire.proofs.any_struct.reader.StructReader.get_pointer.Goals.{then-index-self, else-index-self}

pub returns : goal.returns
returns g c =
    let self = c.args.self.now in
    let pointer : Option Place → Pointer = λ place. record {
      message = message_of (g.S.ReaderSegments.segments self.segments.now);
      place = place;
      nesting = self.nesting;
      limit = limit_of self.limiter;
    } in
    let start = self.start.word + self.size.data_words in
    elim c.if-index-self.branch [
      | then-index-self w ↦
          (let within : c.args.index < self.size.pointers = omega arith in
          ap pointer (w.place-is ∙ sym (place_within self.start.segment start self.size.pointers c.args.index within)))
      | else-index-self w ↦
          (let past : self.size.pointers ≤ c.args.index = omega arith in
          ap pointer (w.place-is ∙ sym (no_place_past self.start.segment start self.size.pointers c.args.index past)))
    ]
