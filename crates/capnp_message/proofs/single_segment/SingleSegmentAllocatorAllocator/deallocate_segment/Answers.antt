-- What comes back is the region, which is made zero.
use Rattle.std.proofs.Common.{◌≡◌, ℕ, ◌*◌, List, ◌++◌, length, drop, refl, ap, subst, ◌∙◌}
use Rattle.capnp_build.specs.Prelude.{Out, ZeroFrom}
use Rattle.capnp_message.proofs.ReturnedRegionLemmas.{comes_back, front_is_zero, children, filled_length}
use Rattle.capnp_message.proofs.single_segment.SingleSegmentAllocatorAllocator.deallocate_segment.Goals as goal

pub invariant_of-self : goal.invariant_of-self
invariant_of-self c =
    let out = c.requires.is_out in
    let n : ℕ = 8 * c.args.words_used in
    let same = comes_back c.args.self.now.region _ _ out.0 out.1 out.2 out.3 in
    let kept : length (c.fill.new.self ++ drop n c.args.segment.now) ≡ c.args.self.now.size =
    filled_length n c.fill.new.self c.args.segment.now c.fill.ensures.len c.requires.used ∙ ap (λ (o : Out). o.length) same.0 in
    let zero = front_is_zero n _ c.fill.new.self c.args.segment.now (c.fill.ensures.after (λ y h. h)) c.requires.zero in
    record {
      whole = λ x is. subst (λ (l : List ℕ). length l ≡ c.args.self.now.size) (children _ x is) kept;
      few = c.args.self.now.few;
      zero = λ x is. subst (ZeroFrom 0) (children _ x is) zero;
    }

pub returns : goal.returns
returns c =
    let out = c.requires.is_out in
    let n : ℕ = 8 * c.args.words_used in
    let same = comes_back c.args.self.now.region _ _ out.0 out.1 out.2 out.3 in
    record {
      takes_off = λ list left out removed. (comes_back c.args.self.now.region _ _ list left out removed).1;
      returned = record {
        available = refl;
        whole = filled_length n c.fill.new.self c.args.segment.now c.fill.ensures.len c.requires.used ∙ ap (λ (o : Out). o.length) same.0;
        zero = front_is_zero n _ c.fill.new.self c.args.segment.now (c.fill.ensures.after (λ y h. h)) c.requires.zero;
      };
      same = refl;
    }
