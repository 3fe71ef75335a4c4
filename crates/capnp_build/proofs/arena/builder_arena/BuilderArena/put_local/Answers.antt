-- A tree is after the used words of the first segment, and the root points to it.
use Rattle.std.proofs.Common.{◌≡◌, ◌<◌, length, Option, Some, None, ap, sym, subst, ◌∙◌, arith}
use Rattle.capnp_build.specs.Prelude.{space_at, KeepsOthers, size_in_words, Built, state_of, IsBuilt, KeepsBytes, IsAtEnd}
use Rattle.capnp_build.specs.declared.arena.location.RootLocation.{RootLocation}
use Rattle.capnp_build.proofs.roots.NullRootTreeLemmas.{root_room}
use Rattle.capnp_build.proofs.layouts.RootPointerToBodyLemmas.{keeps_of}
use Rattle.capnp_build.proofs.layouts.RootIsValueLemmas.{value_set, value_whole}
use Rattle.capnp_build.proofs.arena.builder_arena.BuilderArena.put_local.Goals as goal

pub append_value-location-requires-clause-following : goal.append_value-location-requires-clause-following
append_value-location-requires-clause-following g c =
    let there : 0 < length c.self.inside.segments.spaces = subst (λ (v : Built g.row.A.Denot). 0 < length v.spaces) (sym c.self.view_is) c.requires.there in
    let null : c.self.inside.location ≡ None = ap (λ (v : Built g.row.A.Denot). v.location) c.self.view_is ∙ c.requires.null in
    root_room c.self.inside.segments.spaces there (subst (λ (o : Option RootLocation). IsBuilt c.self.inside.segments.spaces o) null c.self.invariant)

pub invariant_of-self : goal.invariant_of-self
invariant_of-self g c = let v = c.append_value-location.ensures.body in (v.form, v.children, c.point_local.ensures.is_laid v.form v.children v.body_is)

pub returns-clause-whole : goal.returns-clause-whole
returns-clause-whole g c = λ one short.
    let v = c.append_value-location.ensures.body in
    let p = c.append_value-location.ensures.place in
    let here : c.append_value-location.result ≡ p.place = cc in
    let first : c.append_value-location.result.segment ≡ 0 = ap (λ (s : RootLocation). s.segment) here ∙ p.segment_is in
    let start : c.append_value-location.result.start ≡ p.place.start = ap (λ (s : RootLocation). s.start) here in
    let many : c.append_value-location.result.words ≡ c.args.words = ap (λ (s : RootLocation). s.words) here ∙ p.words_are in
    let more = c.append_value-location.ensures.longer in
    let kept = c.point_local.ensures.rewritten in
    let alone : length c.self.inside.segments.spaces ≡ 1 = subst (λ (w : Built g.row.A.Denot). length w.spaces ≡ 1) (sym c.self.view_is) one in
    let eight : length (space_at c.self.inside.segments.spaces 0).used ≡ 8 =
    subst (λ (w : Built g.row.A.Denot). length (space_at w.spaces 0).used ≡ 8) (sym c.self.view_is) short in
    value_whole (g.V.SetterInput.has_tree c.args.value.now) c.args.canonical c.append_value-location.new.self.spaces c.point_local.new.self.spaces c.append_value-location.result v
    (c.point_local.ensures.is_laid v.form v.children v.body_is) (kept.count ∙ more.count ∙ alone) first (omega (arith, start, p.start_is, eight))
    (omega (arith, kept.used 0, more.used, eight, many))

pub returns-clause-block : goal.returns-clause-block
returns-clause-block g c =
    let v = c.append_value-location.ensures.body in
    let more = c.append_value-location.ensures.longer in
    let kept = c.point_local.ensures.rewritten in
    let p = c.append_value-location.ensures.place in
    let here : c.append_value-location.result ≡ p.place = cc in
    let first : c.append_value-location.result.segment ≡ 0 = ap (λ (s : RootLocation). s.segment) here ∙ p.segment_is in
    record {
      set = value_set (g.V.SetterInput.has_tree c.args.value.now) c.args.canonical c.append_value-location.new.self.spaces c.point_local.new.self.spaces c.append_value-location.result v
          (c.point_local.ensures.is_laid v.form v.children v.body_is);
      count = kept.count ∙ more.count ∙ ap (λ (v : Built g.row.A.Denot). length v.spaces) c.self.view_is;
      location = subst (λ (v : Built g.row.A.Denot). IsAtEnd v.spaces (Some c.append_value-location.result) 0 0 c.args.words) c.self.view_is c.append_value-location.ensures.place;
      size = omega (arith, kept.size, more.size, ap (λ (v : Built g.row.A.Denot). size_in_words v.spaces) c.self.view_is);
      bytes = subst (λ (v : Built g.row.A.Denot). KeepsBytes v.spaces c.point_local.new.self.spaces) c.self.view_is
          (λ i from n root fits. let wide = more.each i in c.point_local.ensures.bytes i from n root (λ following same. absurd (omega (arith, following, same, first))) (omega (arith, fits, wide))
          ∙ more.bytes i from n root fits);
      sizes = λ i. kept.sizes i ∙ more.sizes i ∙ ap (λ (v : Built g.row.A.Denot). (space_at v.spaces i).size) c.self.view_is;
      same = kept.allocator ∙ more.allocator ∙ ap (λ (v : Built g.row.A.Denot). v.allocator) c.self.view_is;
      others = subst (λ (v : Built g.row.A.Denot). KeepsOthers g.A.Allocator.out (state_of v) c.point_local.new.self) c.self.view_is
          (keeps_of g.A.Allocator.out c.self.inside.segments c.point_local.new.self (kept.allocator ∙ more.allocator) (λ others. kept.pairs others ∙ more.pairs others));
    }
