-- One segment more is out.
use Rattle.std.proofs.Common.{rules, ◌+◌, ◌^◌, ◌<◌, List, ◌∷◌, [], ◌++◌, length, MatchOption, ap, subst, sym, ◌∙◌}
use Rattle.std.specs.Prelude.{⊤}
use Rattle.capnp_build.specs.Prelude.{Space, BuilderState, pairs}
use Rattle.capnp_build.proofs.states.OutSegmentListChangesLemmas.{other_added, other_keeps, same_pair}
use Rattle.capnp_build.proofs.states.WholeWordSegmentLemmas.{added_words, no_used_words}
use Rattle.capnp_build.proofs.segments.Segments.add.Goals as goal

pub invariant_of-self-2 : goal.invariant_of-self-2
invariant_of-self-2 g c =
    let first = c.self.inside.first in
    let some : MatchOption first ⊥ (λ _. ⊤) = search rules in
    let few : length c.self.inside.others.items + 2 < 2 ^ 32 = search rules in
    let kept =
    other_added (g.A.Allocator.out c.self.inside.allocator) (g.A.Allocator.out c.allocate_segment-2.new.self) first c.self.inside.others.items c.push_reserved.new.self.items
    _ c.new-2.result some c.self.invariant.1 few c.in_ok-segment-2.ensures.adds (same_pair _ _ _ _ (sym c.new-2.ensures.size) (sym c.new-2.ensures.provided))
    (c.push_reserved.ensures.items ∙ ap (λ (l : List Space). l ++ c.new-2.result ∷ []) c.reserve.ensures.items) in (
      kept.0,
      kept.1,
      kept.2,
      added_words first c.self.inside.others.items c.push_reserved.new.self.items c.new-2.result c.self.invariant.3 (no_used_words c.new-2.result c.new-2.ensures.used)
          (c.push_reserved.ensures.items ∙ ap (λ (l : List Space). l ++ c.new-2.result ∷ []) c.reserve.ensures.items),
    )

pub returns-clause-others : goal.returns-clause-others
returns-clause-others g c = λ others is.
    let first = c.self.inside.first in
    let some : MatchOption first ⊥ (λ _. ⊤) = search rules in
    other_keeps (g.A.Allocator.out c.self.inside.allocator) (g.A.Allocator.out c.allocate_segment-2.new.self) first c.self.inside.others.items c.push_reserved.new.self.items
    _ c.new-2.result others some c.in_ok-segment-2.ensures.adds (same_pair _ _ _ _ (sym c.new-2.ensures.size) (sym c.new-2.ensures.provided))
    (c.push_reserved.ensures.items ∙ ap (λ (l : List Space). l ++ c.new-2.result ∷ []) c.reserve.ensures.items)
    (subst (λ (h : BuilderState g.row.A.Denot). g.A.Allocator.out h.allocator (pairs h.spaces others)) (sym c.self.view_is) is)
