-- What making the root a new object does, from its steps: clearing the root, placing the object's block. A view of
-- a new object fails as making it does.
use Rattle.std.proofs.Common.{◌≡◌, ◌∙◌, inl, inr, ℕ, length, Result, Ok, Err, refl, ap, sym, arith}
use Rattle.capnp_frame.specs.declared.error.Error.{Error}
use Rattle.capnp_layout.specs.Prelude.{Form, null}
use Rattle.capnp_build.specs.declared.allocator.Allocator as allocator
use Rattle.capnp_build.specs.declared.owned_builder.OwnedBuilder as owned_builder
use Rattle.capnp_frame.specs.Prelude.{IsPreorder}
use Rattle.capnp_build.specs.Prelude.{Built, NewWords, InitWords, IsNew, PutsBlock, InitsRoot, ClearsRoot, FirstSegmentError, InitsView}
use Rattle.std.specs.Borrow.{MutBor}
use Rattle.capnp_build.proofs.roots.NullRootTreeLemmas.{null_root}
use Rattle.capnp_build.proofs.outcomes.BlockPrefersFirstSegmentLemmas.{still_cleared, found_no_room}
use Rattle.capnp_build.proofs.outcomes.FirstBlockSegmentChoiceLemmas.{first_put}
use Rattle.capnp_build.proofs.states.StayingBytesLemmas.{zero_stays, outside_stays}
use Rattle.capnp_build.proofs.outcomes.SetRootLemmas.{cleared_root, room_first, finds_no_room, block_is_not_taken, still_granted}

-- a new object's block is placed once the root is cleared
pub inits_root : {A S K : Type 0} (alloc : allocator.Ghosts A S) (schema : owned_builder.Ghosts K) (n : ℕ) (form : Form) (old cleared new : Built A)
    {done : Unit {0}} (r : Result (Unit {0}) Error) → IsPreorder alloc.same → ClearsRoot alloc old cleared (Ok done) → schema.inits n form
    → ((words : ℕ) × NewWords form words × PutsBlock alloc (IsNew form) words cleared new r) → InitsRoot alloc schema n old new r
inits_root alloc schema n form old cleared new (Ok done) keeps clear inits told =
    record {
      inits = (form, told.2.set.0, inits, told.2.set.1);
      there = told.2.there;
      placed = record {
        cleared = cleared;
        is_cleared = cleared_root alloc old cleared clear;
        block = inr (told.0, (form, inits, told.1), told.2.placed, λ empty. first_put cleared new told.0 (clear.new_object empty) told.2.placed (told.2.sizes 0 clear.there));
        granted = still_granted alloc old cleared new.spaces clear (told.2.sizes 0 clear.there);
        zero = zero_stays old.location cleared.spaces new.spaces clear.following clear.zero told.2.bytes;
        outside = outside_stays old.location old.spaces cleared.spaces new.spaces clear.outside told.2.bytes;
      };
      nulled = tt;
      kind = tt;
      none = λ gone. tt;
      fits = λ words has most room. tt;
      available = λ empty out. tt;
      same = keeps.transitive _ _ _ clear.same told.2.same;
      others = λ others is. told.2.others others (clear.others others is);
    }
inits_root alloc schema n form old cleared new (Err error) keeps clear inits told = record {
  inits = tt;
  there = tt;
  placed = tt;
  nulled = still_cleared alloc old cleared new (Err error) keeps (cleared_root alloc old cleared clear) told.2.errors told.2.kept told.2.same told.2.others;
  kind = inr (inr (finds_no_room alloc (InitWords schema.inits n) old cleared new told.0 clear (form, inits, told.1) told.2.kept told.2.kind));
  none = λ gone. let l : length cleared.spaces ≡ 0 = ap length (sym told.2.kept ∙ gone) in absurd (omega (arith, l, clear.there));
  fits = λ words has most room.
      let fit = room_first alloc old cleared words clear has.2.few room in
      let full = told.2.kind.0.first in absurd (omega (arith, fit, full, most told.0 (form, inits, told.1)));
  available = λ empty out taken. absurd (block_is_not_taken alloc old cleared told.0 clear told.1.few told.2.kind.0 (told.2.taken taken) empty out);
  same = keeps.transitive _ _ _ clear.same told.2.same;
  others = λ others is. told.2.others others (clear.others others is);
}

-- the null that is left is the new object
pub inits_null : {A S K : Type 0} (alloc : allocator.Ghosts A S) (schema : owned_builder.Ghosts K) (n : ℕ) (old new : Built A) {done : Unit {0}}
    → ClearsRoot alloc old new (Ok done) → schema.inits n null → InitsRoot alloc schema n old new (Ok done)
inits_null alloc schema n old new clear inits =
    let t = null_root new.spaces clear.there clear.null_word in
    record {
      inits = (null, t.0, inits, t.1);
      there = clear.there;
      placed = record { cleared = new; is_cleared = cleared_root alloc old new clear; block = inl refl; granted = still_granted alloc old new new.spaces clear refl; zero = clear.zero; outside = clear.outside };
      nulled = tt;
      kind = tt;
      none = λ gone. tt;
      fits = λ words has most room. tt;
      available = λ empty out. tt;
      same = clear.same;
      others = clear.others;
    }

-- a view of a new object fails as making the object does
pub init_error : {A S K M V : Type 0} (alloc : allocator.Ghosts A S) (schema : owned_builder.Ghosts K) (n : ℕ) (built : M → Built A) (message : V → MutBor M) (old : MutBor M) (new : Built A)
    (error : Error) → InitsRoot alloc schema n (built old.now) new (Err error) → InitsView alloc schema n built message old (Err error)
init_error alloc schema n built message old new error told = record {
  same = tt;
  inits = tt;
  there = tt;
  placed = tt;
  kind = found_no_room alloc (InitWords schema.inits n) (schema.fails n) (FirstSegmentError alloc (built old.now)) (built old.now) new (Err error) told.nulled told.kind;
  fits = told.fits;
  available = told.available;
  allocator = tt;
  others = tt;
}
