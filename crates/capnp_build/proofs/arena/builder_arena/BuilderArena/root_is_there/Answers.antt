-- Where there is a segment, a tree is at the root.
use Rattle.std.proofs.Common.{ℕ, ◌<◌, List, [], ◌∷◌, length, Option, Some, None, subst}
use Rattle.capnp_build.specs.Prelude.{Space, message, Built, IsBuilt}
use Rattle.capnp_layout.specs.Prelude.{Form, null, Trees, none, tree, At, root}
use Rattle.capnp_build.specs.declared.arena.location.RootLocation.{RootLocation}
use Rattle.capnp_build.proofs.layouts.LaidTreeReadAtRootLemmas.{laid_root}
use Rattle.capnp_build.proofs.roots.NullRootTreeLemmas.{null_root}
use Rattle.capnp_build.proofs.arena.builder_arena.BuilderArena.root_is_there.Goals as goal

abbrev HasRoot : List Space → Type 0
HasRoot spaces = 0 < length spaces → (form : Form) × (children : Trees) × (traversed : ℕ) × At (message spaces) (root ∷ []) (tree form children none) traversed

has_root : (spaces : List Space) (o : Option RootLocation) → IsBuilt spaces o → HasRoot spaces
has_root spaces None r there = let t = null_root spaces there r in (null, none, t.0, t.1)
has_root spaces (Some location) p there = let t = laid_root spaces location p.0 p.1 p.2 in (p.0, p.1, t.0, t.1)

pub returns : goal.returns
returns g c = subst (λ (v : Built g.row.A.Denot). HasRoot v.spaces) c.self.view_is (has_root c.self.inside.segments.spaces c.self.inside.location c.self.invariant)
