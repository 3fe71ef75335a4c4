-- Each segment goes back, the last one first.
use Rattle.std.proofs.Common.{◌≡◌, List, [], refl}
use Rattle.capnp_build.specs.Prelude.{Out, pair}
use Rattle.capnp_build.proofs.states.OutSegmentListChangesLemmas.{last_pair, last_alone, out_first, taken_first, no_segment_left, only_first, returned_last, returned_first}
use Rattle.capnp_build.proofs.segments.Segments.into_allocator.Goals as goal

pub return_segment-requires : goal.return_segment-requires
return_segment-requires g c =
    let out = c.loop-part.invariant.out in
    out_first (g.A.Allocator.out c.loop-part.allocator) _ (pair c.in-Some.part) _ _ out.1 refl
    (last_pair c.self.inside.first c.loop-part.others.items c.pop.new.self.items c.in-Some.part out.0 c.loop-part.invariant.alone c.in-Some.ensures.items)

pub loop-part-preserved : goal.loop-part-preserved
loop-part-preserved g c =
    let out = c.loop-part.invariant.out in
    let before = g.A.Allocator.out c.loop-part.allocator in
    let after = g.A.Allocator.out c.return_segment.new.allocator in
    let left = λ (rest : List Out).
    last_pair c.self.inside.first c.loop-part.others.items c.pop.new.self.items c.in-Some.part rest c.loop-part.invariant.alone c.in-Some.ensures.items in
    record {
      alone = last_alone c.self.inside.first c.loop-part.others.items c.pop.new.self.items c.in-Some.part c.loop-part.invariant.alone c.in-Some.ensures.items;
      out = (out.0, taken_first before after _ (pair c.in-Some.part) _ _ out.1 refl (left out.0) c.return_segment.ensures.takes_off);
      others = λ rest is. taken_first before after _ (pair c.in-Some.part) _ _ (c.loop-part.invariant.others rest is) refl (left rest) c.return_segment.ensures.takes_off;
      same = g.met.A.Allocator.keeps.transitive _ _ _ c.loop-part.invariant.same c.return_segment.ensures.same;
      returned = λ last each.
          c.loop-part.invariant.returned last
          (returned_last g.A.Allocator.returns c.self.inside.first c.loop-part.others.items c.pop.new.self.items c.in-Some.part
          c.loop-part.allocator c.return_segment.new.allocator last c.loop-part.invariant.alone c.in-Some.ensures.items c.return_segment.ensures.returned each);
    }

pub return_segment-requires-in-Some-first : goal.return_segment-requires-in-Some-first
return_segment-requires-in-Some-first g c =
    let out = c.loop-part.invariant.out in
    let none : c.loop-part.others.items ≡ [] = no_segment_left _ c.pop.new.self.items _ c.in_default.ensures.cases.0 c.in_default.ensures.rest c.in_default.ensures.items in
    out_first (g.A.Allocator.out c.loop-part.allocator) _ (pair c.in-Some-first.part) _ out.0 out.1 refl
    (only_first c.self.inside.first c.loop-part.others.items c.in-Some-first.part out.0 c.in-Some-first.is none)

pub returns-in-Some-first : goal.returns-in-Some-first
returns-in-Some-first g c =
    let none : c.loop-part.others.items ≡ [] = no_segment_left _ c.pop.new.self.items _ c.in_default.ensures.cases.0 c.in_default.ensures.rest c.in_default.ensures.items in
    let given = c.return_segment-in-Some-first in
    record {
      available = λ rest is.
          taken_first (g.A.Allocator.out c.loop-part.allocator) (g.A.Allocator.out given.new.allocator) _ (pair c.in-Some-first.part) _ rest
          (c.loop-part.invariant.others rest is) refl (only_first c.self.inside.first c.loop-part.others.items c.in-Some-first.part rest c.in-Some-first.is none)
          given.ensures.takes_off;
      returned =
          c.loop-part.invariant.returned given.new.allocator
          (returned_first g.A.Allocator.returns c.self.inside.first c.loop-part.others.items c.in-Some-first.part
          c.loop-part.allocator given.new.allocator c.in-Some-first.is none given.ensures.returned);
      same = g.met.A.Allocator.keeps.transitive _ _ _ c.loop-part.invariant.same given.ensures.same;
    }
