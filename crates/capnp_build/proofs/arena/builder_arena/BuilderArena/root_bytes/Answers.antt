-- The bytes of the block are the bytes of the root's tree.
use Rattle.std.proofs.Common.{◌≡◌, ℕ, ◌*◌, ◌<◌, List, [], take, drop, Option, Some, slice_index_or, ap, sym, subst, ◌∙◌}
use Rattle.std.specs.Option.{option_copied}
use Rattle.capnp_layout.specs.Prelude.{Form, null, Root}
use Rattle.capnp_build.specs.Prelude.{Space, space_at, Built, message, HasNullRoot, IsBuilt, HoldsForm, HoldsTree}
use Rattle.capnp_build.specs.declared.arena.location.RootLocation.{RootLocation}
use Rattle.capnp_build.proofs.states.SegmentSizesAfterChangeLemmas.{got_used}
use Rattle.capnp_build.proofs.roots.NullRootTreeLemmas.{null_only}
use Rattle.capnp_build.proofs.roots.RootBlockIsTreeBytesLemmas.{no_location_no_bytes, its_bytes, root_holds_there}
use Rattle.capnp_build.proofs.arena.builder_arena.BuilderArena.root_bytes.Goals as goal

pub returns-in_default-clause-form : goal.returns-in_default-clause-form
returns-in_default-clause-form g c = λ form children traversed there.
    let spaces : List Space = c.self.inside.segments.spaces in
    let r : HasNullRoot spaces = subst (λ (o : Option RootLocation). IsBuilt spaces o) c.in_default.is c.self.invariant in
    let no : form ≡ null = null_only spaces form children traversed r (subst (λ (v : Built g.row.A.Denot). Root (message v.spaces) form children traversed) (sym c.self.view_is) there) in
    subst (λ (f : Form). HoldsForm [] f) (sym no) tt

pub returns-in_default-clause-tree : goal.returns-in_default-clause-tree
returns-in_default-clause-tree g c =
    let spaces : List Space = c.self.inside.segments.spaces in
    subst (λ (v : Built g.row.A.Denot). HoldsTree v.spaces []) c.self.view_is
    (no_location_no_bytes spaces (subst (λ (o : Option RootLocation). IsBuilt spaces o) c.in_default.is c.self.invariant))

pub returns-clause-form : goal.returns-clause-form
returns-clause-form g c = λ form children traversed there.
    let spaces : List Space = c.self.inside.segments.spaces in
    let location : RootLocation = c.in-Some.location in
    let p : IsBuilt spaces (Some location) = subst (λ (o : Option RootLocation). IsBuilt spaces o) c.in-Some.is c.self.invariant in
    let same : c.in-Some-get.used.now ≡ (space_at spaces location.segment).used =
    got_used spaces location.segment (option_copied c.get.result) c.in-Some-get.used.now p.2.body_is.within c.get.ensures (ap option_copied c.in-Some-get.is) in
    let low : (j : ℕ) → slice_index_or (space_at spaces location.segment).used j 0 < 256 = subst (λ (l : List ℕ). (j : ℕ) → slice_index_or l j 0 < 256) same c.each_is_a_byte.ensures in
    let bytes = c.subslice.ensures ∙ ap (λ (l : List ℕ). take (8 * location.words) (drop (8 * location.start) l)) same in
    subst (λ (l : List ℕ). HoldsForm l form) (sym bytes)
    (root_holds_there spaces location p low form children traversed (subst (λ (v : Built g.row.A.Denot). Root (message v.spaces) form children traversed) (sym c.self.view_is) there))

pub returns-clause-tree : goal.returns-clause-tree
returns-clause-tree g c =
    let spaces : List Space = c.self.inside.segments.spaces in
    let location : RootLocation = c.in-Some.location in
    let p : IsBuilt spaces (Some location) = subst (λ (o : Option RootLocation). IsBuilt spaces o) c.in-Some.is c.self.invariant in
    let same : c.in-Some-get.used.now ≡ (space_at spaces location.segment).used =
    got_used spaces location.segment (option_copied c.get.result) c.in-Some-get.used.now p.2.body_is.within c.get.ensures (ap option_copied c.in-Some-get.is) in
    let bytes = c.subslice.ensures ∙ ap (λ (l : List ℕ). take (8 * location.words) (drop (8 * location.start) l)) same in
    subst (λ (v : Built g.row.A.Denot). HoldsTree v.spaces c.subslice.result.now) c.self.view_is
    (subst (λ (l : List ℕ). HoldsTree spaces l) (sym bytes) (its_bytes spaces location p))
