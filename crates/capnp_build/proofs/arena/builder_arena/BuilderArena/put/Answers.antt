-- A block after a landing pad is placed in the first segment with room.
use Rattle.std.proofs.Common.{rules, ◌≡◌, List, ap, arith}
use Rattle.capnp_build.specs.Prelude.{Space, space_at, free_words_of, Built}
use Rattle.capnp_build.proofs.states.StayingBytesLemmas.{found_bytes, found_sizes}
use Rattle.capnp_build.proofs.outcomes.BlockPrefersFirstSegmentLemmas.{placed_far}
use Rattle.capnp_build.proofs.arena.builder_arena.BuilderArena.put.Goals as goal

pub returns : goal.returns
returns g c =
    let old : List Space = c.args.self.now.spaces in
    let s = c.in_ok-segment.ensures in
    let far = c.put_far.ensures in
    let same : free_words_of (space_at c.self.inside.segments.spaces 0) ≡ free_words_of (space_at old 0) = ap (λ (v : Built g.row.A.Denot). free_words_of (space_at v.spaces 0)) c.self.view_is in
    record {
      set = far.set;
      placed = placed_far old c.find_room.new.self.spaces c.put_far.new.self c.in_ok-segment.segment c.args.words (omega (arith, c.if-words-room.false, c.room.ensures, same)) s.found.0
          s.first s.older s.newer far.count far.location far.size;
      there = omega (arith, far.count, s.found.1);
      bytes = found_bytes old c.find_room.new.self.spaces c.put_far.new.self.spaces c.in_ok-segment.segment s.older s.newer far.bytes;
      sizes = found_sizes old c.find_room.new.self.spaces c.put_far.new.self.spaces c.in_ok-segment.segment s.older s.newer far.sizes;
      errors = tt;
      kept = tt;
      kind = tt;
      taken = tt;
      same = search rules;
      others = λ others is. far.others others (c.find_room.ensures.leaves.others others is);
    }
