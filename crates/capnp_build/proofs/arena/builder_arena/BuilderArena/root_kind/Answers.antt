-- The pointer that is kept shows the root's object.
use Rattle.std.proofs.Common.{◌≡◌, ℕ, List, Option, Some, subst, sym}
use Rattle.capnp_build.specs.Prelude.{Space, IsRootKind, message, HasNullRoot, Built, IsBuilt, ShowsRoot}
use Rattle.capnp_layout.specs.Prelude.{Form, Trees, count, Root, pointer, HasRoom}
use Rattle.capnp_build.specs.declared.root_kind.RootKind.{RootKind}
use Rattle.capnp_build.specs.declared.arena.location.RootLocation.{RootLocation}
use Rattle.capnp_build.proofs.layouts.LaidTreeReadAtRootLemmas.{laid_as}
use Rattle.capnp_build.proofs.roots.NullRootTreeLemmas.{null_only}
use Rattle.capnp_build.proofs.roots.RootObjectFromBodyBytesLemmas.{shown_there}
use Rattle.capnp_build.proofs.arena.builder_arena.BuilderArena.root_kind.Goals as goal

shown_of : (spaces : List Space) (location : RootLocation) (s : RootKind) → IsBuilt spaces (Some location) → ((form : Form) (n : ℕ) → HasRoom form n → location.pointer_word ≡ pointer form n 0 → ShowsRoot s form)
    → (form : Form) (children : Trees) (traversed : ℕ) → Root (message spaces) form children traversed → ShowsRoot s form
shown_of spaces location s p read form children traversed there =
    let r = laid_as spaces location p.0 form p.1 children traversed p.2 there in read form (count children) r.body_is.rooms.0 r.body_is.tag

pub returns-in-None-clause-form : goal.returns-in-None-clause-form
returns-in-None-clause-form g c = λ form children traversed there.
    let spaces : List Space = c.self.inside.segments.spaces in
    let r : HasNullRoot spaces = subst (λ (o : Option RootLocation). IsBuilt spaces o) c.in-None.is c.self.invariant in
    null_only spaces form children traversed r (subst (λ (v : Built g.row.A.Denot). Root (message v.spaces) form children traversed) (sym c.self.view_is) there)

pub returns-in-Some-clause-form : goal.returns-in-Some-clause-form
returns-in-Some-clause-form g c = λ form children traversed there.
    let spaces : List Space = c.self.inside.segments.spaces in
    let p : IsBuilt spaces (Some c.in-Some.location) = subst (λ (o : Option RootLocation). IsBuilt spaces o) c.in-Some.is c.self.invariant in
    shown_of spaces c.in-Some.location c.read_pointer_word.result p c.read_pointer_word.ensures form children traversed (subst (λ (v : Built g.row.A.Denot). Root (message v.spaces) form children traversed) (sym c.self.view_is) there)

pub returns-in-Some-clause-is_kind : goal.returns-in-Some-clause-is_kind
returns-in-Some-clause-is_kind g c =
    let spaces : List Space = c.self.inside.segments.spaces in
    let p : IsBuilt spaces (Some c.in-Some.location) = subst (λ (o : Option RootLocation). IsBuilt spaces o) c.in-Some.is c.self.invariant in
    subst (λ (v : Built g.row.A.Denot). IsRootKind c.read_pointer_word.result v.spaces) c.self.view_is
    (shown_there spaces c.in-Some.location c.read_pointer_word.result p.0 p.1 p.2 (c.read_pointer_word.ensures p.0 (count p.1) p.2.body_is.rooms.0 p.2.body_is.tag))
