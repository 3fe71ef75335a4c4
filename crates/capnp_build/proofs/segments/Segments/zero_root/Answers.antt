-- The block and the root's word become zero.
use Rattle.std.proofs.Common.{Option, Some, sym, subst, arith}
use Rattle.capnp_build.specs.Prelude.{HasNullRoot, IsBuilt, ZeroesRoot}
use Rattle.capnp_build.specs.declared.arena.location.RootLocation.{RootLocation}
use Rattle.capnp_build.proofs.roots.RootZeroingLemmas.{word_wiped, body_wiped}
use Rattle.capnp_build.proofs.segments.Segments.zero_root.Goals as goal

pub returns-in-Some : goal.returns-in-Some
returns-in-Some g c =
    let built : IsBuilt c.args.self.now.spaces (Some c.in-Some.location) = subst (λ (o : Option RootLocation). IsBuilt c.args.self.now.spaces o) c.in-Some.is c.requires.built in
    subst (λ (o : Option RootLocation). ZeroesRoot g.A.Allocator o c.args.self.now c.zero-in-Some.new.self) (sym c.in-Some.is)
    (body_wiped g.A.Allocator c.args.self.now c.zero.new.self c.zero-in-Some.new.self c.in-Some.location _ built (omega arith) c.zero.ensures c.zero-in-Some.ensures)

pub returns : goal.returns
returns g c =
    let null : HasNullRoot c.args.self.now.spaces = subst (λ (o : Option RootLocation). IsBuilt c.args.self.now.spaces o) c.in_default.is c.requires.built in
    subst (λ (o : Option RootLocation). ZeroesRoot g.A.Allocator o c.args.self.now c.zero-2.new.self) (sym c.in_default.is)
    (word_wiped g.A.Allocator c.args.self.now c.zero-2.new.self c.requires.there null c.zero-2.ensures)
