-- The sum counts the segments gone over so far.
use Rattle.std.proofs.Common.{◌≡◌, ◌-◌, ◌^◌, min, take}
use Rattle.capnp_frame.specs.Prelude.{size_in_words}
use Rattle.capnp_wire.proofs.arena.reader_arena.ReaderArena.size_in_words.Given as goal

abbrev pub invariant-loop-id : goal.invariant-loop-id
invariant-loop-id g l = l.words ≡ min (size_in_words (take l.id (g.S.ReaderSegments.segments l.fn.self.segments))) (2 ^ 64 - 1)
