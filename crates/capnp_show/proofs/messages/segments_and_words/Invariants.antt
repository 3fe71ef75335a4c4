-- So far the segments that were visited are counted, and their words.
use Rattle.std.proofs.Common.{◌≡◌, ◌≤◌, ◌-◌, ◌^◌, length, min, take}
use Rattle.capnp_frame.specs.Prelude.{size_in_words}
use Rattle.capnp_show.proofs.messages.segments_and_words.Given as goal

abbrev pub invariant-loop-id : goal.invariant-loop-id
invariant-loop-id g l = (l.count ≡ l.id) × (l.id ≤ length (g.S.ReaderSegments.segments l.fn.segments))
    × (l.words ≡ min (size_in_words (take l.id (g.S.ReaderSegments.segments l.fn.segments))) (2 ^ 64 - 1)) × (l.id ≤ 512)
