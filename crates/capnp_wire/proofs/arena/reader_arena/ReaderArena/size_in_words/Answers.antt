-- The sum over the first segments grows to the sum over all of them.
use Rattle.std.proofs.Common.{◌≡◌, ◌<◌, [], length, Some, slice_get, sym, arith}
use Rattle.std.proofs.lemmas.Option.{slice_get-get_or}
use Rattle.capnp_layout.proofs.objects.SectionWordByIndexLemmas.{size_next}
use Rattle.capnp_wire.proofs.arena.reader_arena.ReaderArena.size_in_words.Goals as goal
use Rattle.capnp_wire.proofs.arena.reader_arena.ReaderArena.size_in_words.Goals.{in-Some, in_default}

pub loop-id-preserved : goal.loop-id-preserved
loop-id-preserved g c =
    let segments = g.S.ReaderSegments.segments c.args.self.now.segments in
    elim c.match-get_segment.branch [
      | in-Some w ↦
          (let there : slice_get segments c.loop-id.id ≡ Some w.in-Some.segment.now = sym w.in-Some.ensures in
          let more = size_next segments c.loop-id.id w.in-Some.segment.now there in
          omega (arith, more, c.loop-id.invariant, w.words-is, w.saturating_add-words.ensures))
      | in_default w ↦
          (let within : c.loop-id.id < length segments = omega (arith, c.len-id-end.ensures) in
          let there = slice_get-get_or segments c.loop-id.id [] within in
          let none = w.in_default.ensures in
          cc)
    ]
