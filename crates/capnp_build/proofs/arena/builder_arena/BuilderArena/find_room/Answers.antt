-- A new segment keeps the null root.
use Rattle.std.proofs.Common.{◌≡◌, inr, inl, ◌<◌, List, [], ◌∷◌, ◌++◌, length, Option, None, ap, sym, subst, ◌∙◌, arith}
use Rattle.capnp_build.specs.Prelude.{Space, HasNullRoot, message, Built, IsBuilt}
use Rattle.capnp_layout.specs.Prelude.{word_at, root}
use Rattle.capnp_build.specs.declared.arena.location.RootLocation.{RootLocation}
use Rattle.capnp_build.proofs.states.SegmentSizesAfterChangeLemmas.{root_appended}
use Rattle.capnp_build.proofs.arena.builder_arena.BuilderArena.find_room.Goals as goal

added : (spaces more : List Space) (s : Space) → 0 < length spaces → more ≡ spaces ++ s ∷ [] → HasNullRoot spaces → HasNullRoot more
added spaces more s there e r = elim r [
  | inl none ↦ (let l : length spaces ≡ 0 = ap length none in absurd (omega (arith, l, there)))
  | inr word ↦ inr (ap (λ (l : List Space). word_at (message l) root) e ∙ root_appended spaces s there ∙ word)
]

pub invariant_of-self-2 : goal.invariant_of-self-2
invariant_of-self-2 g c =
    let spaces : List Space = c.self.inside.segments.spaces in
    let there : 0 < length spaces = subst (λ (v : Built g.row.A.Denot). 0 < length v.spaces) (sym c.self.view_is) c.requires.there in
    let null : c.self.inside.location ≡ None = ap (λ (v : Built g.row.A.Denot). v.location) c.self.view_is ∙ c.requires.null in
    let more = c.in_ok-add.ensures.added in
    subst (λ (o : Option RootLocation). IsBuilt c.add.new.self.spaces o) (sym null)
    (added spaces c.add.new.self.spaces more.0 there more.1 (subst (λ (o : Option RootLocation). IsBuilt spaces o) null c.self.invariant))
