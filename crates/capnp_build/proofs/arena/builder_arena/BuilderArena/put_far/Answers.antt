-- A tree is after its landing pad, and the root points to it.
use Rattle.std.proofs.Common.{ℕ, ◌≡◌, ◌+◌, ◌*◌, ◌<◌, ◌≤◌, length, replicate, ap, sym, subst, ◌∙◌, arith}
use Rattle.std.proofs.lemmas.List.{length-replicate}
use Rattle.capnp_build.specs.Prelude.{space_at, KeepsOthers, size_in_words, Built, state_of, KeepsBytes}
use Rattle.capnp_build.specs.declared.arena.location.RootLocation.{RootLocation}
use Rattle.capnp_build.proofs.layouts.RootPointerToBodyLemmas.{longer_by, keeps_of}
use Rattle.capnp_build.proofs.layouts.RootIsValueLemmas.{value_set}
use Rattle.capnp_build.proofs.arena.builder_arena.BuilderArena.put_far.Goals as goal

pub invariant_of-self : goal.invariant_of-self
invariant_of-self g c = let v = c.append_value-location.ensures.body in (v.form, v.children, c.point_far.ensures.is_laid v.form v.children v.body_is)

pub returns : goal.returns
returns g c =
    let within : c.args.segment < length c.self.inside.segments.spaces = subst (λ (v : Built g.row.A.Denot). c.args.segment < length v.spaces) (sym c.self.view_is) c.requires.within in
    let landing_pad = longer_by c.self.inside.segments c.grow.new.self c.args.segment 1 (replicate (8 * 1) 0) within (length-replicate {A = ℕ} (8 * 1) 0) c.grow.ensures in
    let v = c.append_value-location.ensures.body in
    let p = c.append_value-location.ensures.place in
    let more = c.append_value-location.ensures.longer in
    let kept = c.point_far.ensures.rewritten in
    let here : c.append_value-location.result ≡ p.place = cc in
    let start : c.append_value-location.result.start ≡ p.place.start = ap (λ (s : RootLocation). s.start) here in
    let place : c.append_value-location.result.segment ≡ c.args.segment = ap (λ (s : RootLocation). s.segment) here ∙ p.segment_is in
    let before : (i from n : ℕ) → i ≡ c.append_value-location.result.segment → from + n ≤ length (space_at c.self.inside.segments.spaces i).used → from + n + 8 ≤ 8 * c.append_value-location.result.start =
    λ i from n same fits. let inside : from + n ≤ length (space_at c.self.inside.segments.spaces c.args.segment).used = subst (λ (k : ℕ). from + n ≤ length (space_at c.self.inside.segments.spaces k).used) (same ∙ place) fits in
    omega (arith, inside, start, p.start_is, landing_pad.used) in
    record {
      set = value_set (g.V.SetterInput.has_tree c.args.value.now) c.args.canonical c.append_value-location.new.self.spaces c.point_far.new.self.spaces c.append_value-location.result v
          (c.point_far.ensures.is_laid v.form v.children v.body_is);
      count = kept.count ∙ more.count ∙ landing_pad.count ∙ ap (λ (v : Built g.row.A.Denot). length v.spaces) c.self.view_is;
      location = record {
        place = p.place;
        place_is = p.place_is;
        segment_is = p.segment_is;
        words_are = p.words_are;
        start_is = omega (arith, p.start_is, landing_pad.used, ap (λ (v : Built g.row.A.Denot). length (space_at v.spaces c.args.segment).used) c.self.view_is);
      };
      size = omega (arith, kept.size, more.size, landing_pad.size, ap (λ (v : Built g.row.A.Denot). size_in_words v.spaces) c.self.view_is);
      bytes = subst (λ (v : Built g.row.A.Denot). KeepsBytes v.spaces c.point_far.new.self.spaces) c.self.view_is
          (λ i from n root fits. let low = landing_pad.each i in let wide = more.each i in
          c.point_far.ensures.bytes i from n root (λ following same. before i from n same fits) (omega (arith, fits, low, wide)) ∙ more.bytes i from n root (omega (arith, fits, low)) ∙ landing_pad.bytes i from n root fits);
      sizes = λ i. kept.sizes i ∙ more.sizes i ∙ landing_pad.sizes i ∙ ap (λ (v : Built g.row.A.Denot). (space_at v.spaces i).size) c.self.view_is;
      same = kept.allocator ∙ more.allocator ∙ landing_pad.allocator ∙ ap (λ (v : Built g.row.A.Denot). v.allocator) c.self.view_is;
      others = subst (λ (v : Built g.row.A.Denot). KeepsOthers g.A.Allocator.out (state_of v) c.point_far.new.self) c.self.view_is
          (keeps_of g.A.Allocator.out c.self.inside.segments c.point_far.new.self (kept.allocator ∙ more.allocator ∙ landing_pad.allocator)
          (λ others. kept.pairs others ∙ more.pairs others ∙ landing_pad.pairs others));
    }
