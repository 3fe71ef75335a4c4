-- No segment that was passed has room.
use Rattle.std.proofs.Common.{ℕ, ◌<◌}
use Rattle.capnp_build.specs.Prelude.{space_at, free_words_of}
use Rattle.capnp_build.proofs.arena.builder_arena.BuilderArena.find_room.Given as goal

abbrev pub invariant-loop-segment : goal.invariant-loop-segment
invariant-loop-segment g l = (i : ℕ) → 0 < i → i < l.segment → free_words_of (space_at l.self-inside.segments.spaces i) < l.words
