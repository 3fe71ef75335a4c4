-- The root is cleared first, and then the canonical form is placed.
use Rattle.std.proofs.Common.{rules, length, ap, arith, refl}
use Rattle.std.proofs.lemmas.Result.{err_from_is_err_and}
use Rattle.capnp_build.specs.Prelude.{space_at, free_words_of, Built}
use Rattle.capnp_build.proofs.outcomes.SetRootLemmas.{cleared_root, still_granted}
use Rattle.capnp_build.proofs.outcomes.CanonicalRootErrorLemmas.{canonical_unmeasured, canonical_full, set_meets_no_error}
use Rattle.capnp_build.proofs.outcomes.FirstBlockSegmentChoiceLemmas.{first_put}
use Rattle.capnp_build.proofs.states.StayingBytesLemmas.{zero_stays, outside_stays}
use Rattle.capnp_build.proofs.outcomes.BlockPrefersFirstSegmentLemmas.{placed_local}
use Rattle.capnp_build.proofs.arena.builder_arena.BuilderArena.set_root_canonical.Goals as goal

pub returns : goal.returns
returns g c =
    let clear = c.in_ok-clear_root.ensures in
    let local = c.put_local.ensures.block in
    let alone = ap (λ (v : Built g.row.A.Denot). length v.spaces) c.self.view_is in
    let placed = placed_local c.clear_root.new.self.spaces c.put_local.new.self c.in_ok-words.words (search rules) local.location local.count (omega (arith, local.size)) in
    record {
      set = local.set;
      placed = record {
        cleared = c.clear_root.new.self;
        words = c.in_ok-words.words;
        is_cleared = cleared_root g.A.Allocator _ _ clear;
        words_are = c.in_ok-words.ensures.returned;
        placed = placed;
        first = λ none. first_put c.clear_root.new.self c.put_local.new.self c.in_ok-words.words (clear.new_object none) placed (local.sizes 0);
        granted = still_granted g.A.Allocator _ c.clear_root.new.self c.put_local.new.self.spaces clear (local.sizes 0);
        zero = zero_stays _ c.clear_root.new.self.spaces c.put_local.new.self.spaces clear.following clear.zero local.bytes;
        outside = outside_stays _ _ c.clear_root.new.self.spaces c.put_local.new.self.spaces clear.outside local.bytes;
      };
      one = omega (arith, local.count, alone, c.if-len-gt1.false, c.len.ensures, clear.there);
      whole = λ none. c.put_local.ensures.whole (clear.new_object none).0 (clear.new_object none).1;
      nulled = tt;
      kind = tt;
      exact = λ kind errors. absurd (set_meets_no_error g.A.Allocator _ _ _ c.clear_root.new.self c.in_ok-words.words kind clear (omega (arith, alone, c.if-len-gt1.false, c.len.ensures)) (search rules)
          (λ k words_error. c.in_ok-words.ensures.exact k words_error) (λ other has. let same = c.in_ok-words.ensures.found other has in cc) errors);
      words_error = λ none kind words_error. absurd (c.in_ok-words.ensures.exact kind words_error);
      fits = λ few words has room. refl;
      available = λ none out. tt;
      same = search rules;
      others = λ others is. local.others others (clear.others others is);
    }

pub returns-in_err-words : goal.returns-in_err-words
returns-in_err-words g c =
    let p = err_from_is_err_and c.from_residual-in_err-words.result c.from_residual-in_err-words.ensures.1 in
    let alone = ap (λ (v : Built g.row.A.Denot). length v.spaces) c.self.view_is in
    rw (p.1, p.2) (canonical_unmeasured g.A.Allocator (g.V.SetterInput.has_tree c.args.value.now) (g.V.SetterInput.fails c.args.value.now) _ c.clear_root.new.self _ c.in_ok-clear_root.ensures
    (omega (arith, alone, c.if-len-gt1.false, c.len.ensures, c.in_ok-clear_root.ensures.there)) c.in_err-words.ensures.returned c.in_err-words.ensures.exact
    (λ words has. let same = c.in_err-words.ensures.found words has in absurd (cc)))

pub returns-then-words-room : goal.returns-then-words-room
returns-then-words-room g c =
    let alone = ap (λ (v : Built g.row.A.Denot). length v.spaces) c.self.view_is in
    let same = ap (λ (v : Built g.row.A.Denot). free_words_of (space_at v.spaces 0)) c.self.view_is in
    canonical_full g.A.Allocator (g.V.SetterInput.has_tree c.args.value.now) (g.V.SetterInput.fails c.args.value.now) _ c.clear_root.new.self _ c.in_ok-words.words c.in_ok-clear_root.ensures
    (omega (arith, alone, c.if-len-gt1.false, c.len.ensures, c.in_ok-clear_root.ensures.there)) (search rules) c.in_ok-words.ensures.returned
    (omega (arith, same, c.if-words-room.true, c.room.ensures)) (λ k words_error. c.in_ok-words.ensures.exact k words_error) (λ other has. let same = c.in_ok-words.ensures.found other has in cc)
