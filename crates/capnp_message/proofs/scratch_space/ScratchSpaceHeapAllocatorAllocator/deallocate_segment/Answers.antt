-- What comes back as caller-provided is the region, which is made zero; all else goes to the heap.
use Rattle.std.proofs.Common.{◌≡◌, ℕ, ◌*◌, ◌≤◌, List, ◌++◌, length, drop, refl, subst, ◌∙◌}
use Rattle.capnp_build.specs.Prelude.{ZeroFrom}
use Rattle.capnp_message.proofs.ReturnedRegionLemmas.{front_is_zero, children, filled_length, comes_home_as, stays_out}
use Rattle.capnp_message.proofs.scratch_space.ScratchSpaceHeapAllocatorAllocator.deallocate_segment.Goals as goal

pub invariant_of-self : goal.invariant_of-self
invariant_of-self c =
    let out = c.requires.is_out in
    let region = c.in-Lent.region in
    let same = comes_home_as c.args.self.now.region c.args.segment region c.args.self.now.size out.0 out.1 c.in-Lent.is out.2 out.3 in
    let n : ℕ = 8 * c.args.words_used in
    let used : n ≤ length region.now = (rw c.in-Lent.is at c.requires.used) in
    let clean : ZeroFrom n region.now = (rw c.in-Lent.is at c.requires.zero) in
    let kept : length (c.fill.new.self ++ drop n region.now) ≡ c.args.self.now.size = filled_length n c.fill.new.self region.now c.fill.ensures.len used ∙ same.0 in
    let zero = front_is_zero n _ c.fill.new.self region.now (c.fill.ensures.after (λ y h. h)) clean in
    record {
      whole = λ x is. subst (λ (l : List ℕ). length l ≡ c.args.self.now.size) (children _ x is) kept;
      few = c.args.self.now.few;
      zero = λ x is. subst (ZeroFrom 0) (children _ x is) zero;
      maximum = c.args.self.now.maximum;
    }

pub returns-in-Lent : goal.returns-in-Lent
returns-in-Lent c =
    let out = c.requires.is_out in
    let region = c.in-Lent.region in
    let same = comes_home_as c.args.self.now.region c.args.segment region c.args.self.now.size out.0 out.1 c.in-Lent.is out.2 out.3 in
    let n : ℕ = 8 * c.args.words_used in
    let used : n ≤ length region.now = (rw c.in-Lent.is at c.requires.used) in
    let clean : ZeroFrom n region.now = (rw c.in-Lent.is at c.requires.zero) in
    record {
      takes_off = λ list left out removed. (comes_home_as c.args.self.now.region c.args.segment region c.args.self.now.size list left c.in-Lent.is out removed).1;
      returned =
          rw c.in-Lent.is (
            record {
              available = refl;
              whole = filled_length n c.fill.new.self region.now c.fill.ensures.len used ∙ same.0;
              zero = front_is_zero n _ c.fill.new.self region.now (c.fill.ensures.after (λ y h. h)) clean;
            },
            record { next = refl; strategy = refl; maximum = refl },
          );
      same = refl;
    }

pub returns-in-Owned : goal.returns-in-Owned
returns-in-Owned c = record {
  takes_off = λ list left out removed.
      stays_out c.args.self.now.region (length c.in-Owned.owned.items) c.args.self.now.size list left out (rw c.in-Owned.is at removed);
  returned = rw c.in-Owned.is (refl, c.deallocate_segment.ensures.returned);
  same = refl;
}
