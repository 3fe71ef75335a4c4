-- Zeros are written over the root's word, and before it over the block that it points to; this leaves a null root.
use Rattle.std.proofs.Common.{◌≡◌, inl, inr, ℕ, ◌+◌, ◌*◌, ◌<◌, ◌≤◌, List, length, replicate, Some, None, slice_set, ap, sym, subst, ◌∙◌, refl, arith}
use Rattle.std.proofs.lemmas.List.{length-replicate}
use Rattle.capnp_layout.specs.Prelude.{word_at, root}
use Rattle.capnp_build.specs.Prelude.{Space, with_bytes, BuilderState, space_at, with_space, message, size_in_words, HasNullRoot, IsBuilt, root_word, ZeroesRoot}
use Rattle.capnp_build.specs.declared.allocator.Allocator.{Ghosts}
use Rattle.capnp_build.specs.declared.arena.location.RootLocation.{RootLocation}
use Rattle.capnp_build.proofs.states.OutSegmentListChangesLemmas.{edit_keeps}
use Rattle.capnp_build.proofs.roots.NullRootTreeLemmas.{old_cleared, old_size, first_cleared, first_size, root_is_there, root_room}
use Rattle.capnp_build.proofs.states.StayingBytesLemmas.{kept_past, kept_outside}
use Rattle.capnp_build.proofs.states.SegmentSizesAfterChangeLemmas.{one_zeroed, two_zeroed, wiped}

pub word_wiped : {A S : Type 0} (alloc : Ghosts A S) (old new : BuilderState A) → 0 < length old.spaces → HasNullRoot old.spaces
    → new ≡ with_space old 0 (with_bytes (space_at old.spaces 0) 0 (replicate 8 0)) → ZeroesRoot alloc None old new
word_wiped {A = A} alloc old new there null e =
    let spaces_are : new.spaces ≡ slice_set old.spaces 0 (with_bytes (space_at old.spaces 0) 0 (replicate 8 0)) = ap (λ (h : BuilderState A). h.spaces) e in
    let room : 8 ≤ length (space_at old.spaces 0).used = root_room old.spaces there null in
    let kept = one_zeroed old.spaces new.spaces 0 0 (replicate 8 0) room spaces_are in
    record {
      null_word = subst HasNullRoot (sym spaces_are) (first_cleared old.spaces there null);
      zero = tt;
      following = tt;
      count = kept.0;
      size = ap size_in_words spaces_are ∙ first_size old.spaces there null;
      rooms = λ _. (kept.0, kept.1);
      outside = λ i from n root lies fits.
          kept_past old.spaces new.spaces 0 0 i from n (replicate 8 0) spaces_are (λ same. let past = root (sym same) in omega (arith, past, length-replicate {A = ℕ} 8 0)) fits;
      allocator = ap (λ (h : BuilderState A). h.allocator) e;
      others = edit_keeps alloc.out old new 0 _ refl e;
    }

pub body_wiped : {A S : Type 0} (alloc : Ghosts A S) (old between new : BuilderState A) (location : RootLocation) (k : ℕ) → IsBuilt old.spaces (Some location) → k ≡ 8 * location.words
    → between ≡ with_space old location.segment (with_bytes (space_at old.spaces location.segment) (8 * location.start) (replicate k 0))
    → new ≡ with_space between 0 (with_bytes (space_at between.spaces 0) 0 (replicate 8 0)) → ZeroesRoot alloc (Some location) old new
body_wiped {A = A} alloc old between new location k built long d e =
    let spaces : List Space = old.spaces in
    let laid = built.2 in
    let zeros : List ℕ = replicate k 0 in
    let word : ℕ = root_word location.segment location.start built.0 built.1 in
    let fits : 8 * location.start + length zeros ≤ length (space_at spaces location.segment).used = omega (arith, laid.body_is.room, long, length-replicate {A = ℕ} k 0) in
    let first = root_is_there spaces word laid.root_is in
    let between_is : between.spaces ≡ slice_set spaces location.segment (with_bytes (space_at spaces location.segment) (8 * location.start) zeros) = ap (λ (h : BuilderState A). h.spaces) d in
    let new_is : new.spaces ≡ slice_set between.spaces 0 (with_bytes (space_at between.spaces 0) 0 (replicate 8 0)) = ap (λ (h : BuilderState A). h.spaces) e in
    let zero_root = λ (l : List Space). slice_set l 0 (with_bytes (space_at l 0) 0 (replicate 8 0)) in
    let kept = two_zeroed spaces between.spaces new.spaces location.segment (8 * location.start) zeros (replicate 8 0) fits first.1 between_is new_is in
    record {
      null_word = inr (ap (λ (l : List Space). word_at (message l) root) (new_is ∙ ap zero_root between_is) ∙ old_cleared spaces location.segment (8 * location.start) zeros word laid.root_is fits);
      zero =
          wiped spaces between.spaces new.spaces location.segment (8 * location.start) (8 * location.words) k laid.body_is.within (omega (arith, laid.body_is.following)) long (omega (arith, laid.body_is.room)) between_is
          new_is;
      following = laid.body_is.following;
      count = (kept first.0).0;
      size = ap size_in_words (new_is ∙ ap zero_root between_is) ∙ old_size spaces location.segment (8 * location.start) zeros word laid.root_is fits;
      rooms = kept;
      outside = λ i from n root lies inside.
          let used = (one_zeroed spaces between.spaces location.segment (8 * location.start) zeros fits between_is).2 i in
          kept_past between.spaces new.spaces 0 0 i from n (replicate 8 0) new_is (λ same. let past = root (sym same) in omega (arith, past, length-replicate {A = ℕ} 8 0)) (omega (arith, used, inside))
          ∙ kept_outside spaces between.spaces location.segment (8 * location.start) i from n zeros between_is (λ same. elim (lies (sym same)) [
            | inl before ↦ inl before
            | inr past ↦ inr (omega (arith, past, long, length-replicate {A = ℕ} k 0))
          ]) (omega (arith, fits)) inside;
      allocator = ap (λ (h : BuilderState A). h.allocator) e ∙ ap (λ (h : BuilderState A). h.allocator) d;
      others = λ others is. edit_keeps alloc.out between new 0 _ refl e others (edit_keeps alloc.out old between location.segment _ refl d others is);
    }
