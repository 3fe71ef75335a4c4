-- The object is among the bytes from its segment on, and what lies past the bytes is nothing.
use Rattle.std.proofs.Common.{◌+◌, ◌-◌, ◌*◌, length, take, drop, sym, ap, ◌∙◌, arith}
use Rattle.capnp_layout.specs.Prelude.{words_of, room_of}
use Rattle.capnp_c.specs.Segments.{start_of}
use Rattle.capnp_c.proofs.in_place.SegmentByteRangeLemmas.{lies_among, drop_after}
use Rattle.capnp_c.proofs.reading.segments.MessageSegments.begin_before.Goals as goal

pub returns-clause-within : goal.returns-clause-within
returns-clause-within c =
    let object = c.args.object.now in
    let among = lies_among c.args.self.now.begins.now c.args.self.now.count c.args.self.now.bytes.now object.segment.now object.start.segment object.start.word (room_of object.body)
    c.requires.content c.requires.room in
    omega (arith, among.within, ap length c.requires.rest, c.requires.within)

pub returns-clause-words : goal.returns-clause-words
returns-clause-words c =
    let object = c.args.object.now in
    let bytes = c.args.self.now.bytes.now in
    let start = start_of c.args.self.now.begins.now c.args.self.now.count bytes object.start.segment in
    let room = room_of object.body in
    let among = lies_among c.args.self.now.begins.now c.args.self.now.count bytes object.segment.now object.start.segment object.start.word room c.requires.content c.requires.room in
    among.words
    ∙ ap (λ l. words_of (take (8 * room) l)) (sym (drop_after start (8 * object.start.word) bytes))
    ∙ ap (λ l. words_of (take (8 * room) (drop (length bytes - length l + 8 * object.start.word) bytes))) (sym c.requires.rest)
