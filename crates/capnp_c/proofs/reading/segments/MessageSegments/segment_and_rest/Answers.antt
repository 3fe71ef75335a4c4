-- The segment has as many words as its field says, or ends with the bytes.
use Rattle.std.proofs.Common.{◌*◌, Some, take, sym, ap, ◌∙◌, arith}
use Rattle.capnp_c.proofs.in_place.SegmentByteRangeLemmas.{segment_is, no_segment}
use Rattle.capnp_c.proofs.reading.segments.MessageSegments.segment_and_rest.Goals as goal

pub returns-then-id-self : goal.returns-then-id-self
returns-then-id-self c = no_segment c.args.self.now.begins.now c.args.self.now.count c.args.self.now.bytes.now c.args.id (omega arith)

pub returns : goal.returns
returns c =
    let words = c.words_of_segment.result in (
      sym (ap Some (c.front.ensures ∙ ap (take (8 * words)) c.following-rest.ensures.rest)
          ∙ sym (segment_is c.args.self.now.begins.now c.args.self.now.count c.args.self.now.bytes.now c.args.id words (omega arith) (omega arith) c.words_of_segment.ensures)),
      c.following-rest.ensures.rest,
      c.following-rest.ensures.within,
    )
