-- Where a pointer fails with an error, no tree within the nesting depth left is at its place.
use Rattle.std.proofs.Common.{◌≡◌, ℕ, ◌+◌, ◌≤◌, Bool, if◌then◌else◌, List, [], ◌∷◌, ap, arith}
use Rattle.capnp_frame.specs.declared.error.ErrorKind.{ErrorKind}
use Rattle.capnp_layout.specs.Tree.{is_null}
use Rattle.capnp_layout.specs.Prelude.{Trees, depth, At, nowhere, at, PointerError}
use Rattle.capnp_layout.specs.declared.place.Place.{Place}
use Rattle.capnp_layout.proofs.pointers.ErrorExcludesObjectLemmas.{invalid_pointer_has_no_object}

pub error_no_tree : (m : List (List ℕ)) (place : Place) (nesting : ℕ) (kind : ErrorKind) (trees : Trees) (traversed : ℕ) → PointerError m place nesting kind → At m (place ∷ []) trees traversed
    → depth trees ≤ nesting → ⊥
error_no_tree m place nesting kind trees traversed invalid (at {shape = s} {children = h} object inner nowhere) shallow =
    invalid_pointer_has_no_object m place nesting kind s invalid object (λ some.
    let plain : (if is_null s.form then 0 else depth h + 1) ≡ depth h + 1 = ap (λ (b : Bool). if b then 0 else depth h + 1) some in
    omega arith)
