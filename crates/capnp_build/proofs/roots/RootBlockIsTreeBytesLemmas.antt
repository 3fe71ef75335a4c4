-- The bytes of a root's block are the bytes of its tree.
use Rattle.std.proofs.Common.{◌≡◌, ℕ, ◌*◌, ◌<◌, List, [], length, take, drop, Some, slice_index_or, refl, ap, ◌∙◌, arith}
use Rattle.capnp_layout.specs.Prelude.{Form, Trees, total_words, body, Root}
use Rattle.capnp_build.specs.Prelude.{Space, space_at, message, HasNullRoot, IsBuilt, HoldsForm, HoldsTree}
use Rattle.capnp_build.specs.declared.arena.location.RootLocation.{RootLocation}
use Rattle.capnp_build.proofs.roots.NullRootTreeLemmas.{null_tree_only}
use Rattle.capnp_build.proofs.layouts.LaidTreeReadAtRootLemmas.{laid_as}
use Rattle.capnp_build.proofs.roots.RootObjectFromBodyBytesLemmas.{holds_form, body_words, body_long}

-- a root of no location
pub no_location_no_bytes : (spaces : List Space) → HasNullRoot spaces → HoldsTree spaces []
no_location_no_bytes spaces r = record {
  words = λ form children traversed there. ap body (null_tree_only spaces form children traversed r there);
  size = λ form children traversed there. ap (λ (t : Trees). 8 * total_words t) (null_tree_only spaces form children traversed r there);
  empty = λ e. refl;
}

-- a root of some location
pub its_bytes : (spaces : List Space) (location : RootLocation) → IsBuilt spaces (Some location) → HoldsTree spaces (take (8 * location.words) (drop (8 * location.start) (space_at spaces location.segment).used))
its_bytes spaces location p = record {
  words = λ form children traversed there. body_words spaces location form children (laid_as spaces location p.0 form p.1 children traversed p.2 there);
  size = λ form children traversed there.
      let r = laid_as spaces location p.0 form p.1 children traversed p.2 there in
      body_long spaces location form children r ∙ ap (λ (n : ℕ). 8 * n) r.body_is.size;
  empty = λ e. let no : length spaces ≡ 0 = ap length e in absurd (omega (arith, no, p.2.body_is.within));
}

-- the form of such a root
pub root_holds_there : (spaces : List Space) (location : RootLocation) → IsBuilt spaces (Some location) → ((i : ℕ) → slice_index_or (space_at spaces location.segment).used i 0 < 256)
    → (form : Form) (children : Trees) (traversed : ℕ) → Root (message spaces) form children traversed
    → HoldsForm (take (8 * location.words) (drop (8 * location.start) (space_at spaces location.segment).used)) form
root_holds_there spaces location p low form children traversed there =
    holds_form spaces location form children (laid_as spaces location p.0 form p.1 children traversed p.2 there) low
