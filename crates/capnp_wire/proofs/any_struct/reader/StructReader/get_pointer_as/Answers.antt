-- The pointers of a struct are in the segment of the struct.
use Rattle.std.proofs.Common.{◌+◌, refl, sym, subst}
use Rattle.capnp_layout.specs.Prelude.{words_of, message_of}
use Rattle.capnp_wire.specs.Prelude.{Pointer, HasSegment}
use Rattle.capnp_wire.proofs.pointers.PointersInStructSegmentLemmas.{struct_pointers_within}
use Rattle.capnp_wire.proofs.any_struct.reader.StructReader.get_pointer_as.Goals as goal

pub get_from_segment-requires : goal.get_from_segment-requires
get_from_segment-requires g c κs =
    let self = c.args.self.now in
    let words = words_of self.segment.now in
    let m = message_of (g.S.ReaderSegments.segments self.segments.now) in (
      (refl, tt),
      subst (λ (p : Pointer). HasSegment p words) (sym c.get_pointer.ensures)
          (struct_pointers_within m words self.start.segment (self.start.word + self.size.data_words) self.size.pointers c.args.index self.content),
    )
