-- The text that a root is set to is what its reading view shows.
use Rattle.std.proofs.Common.{◌≡◌, ℕ, List, [], ◌∷◌, ◌++◌, Bool, true, false, nat_eq, map, refl, sym, subst}
use Rattle.std.proofs.lemmas.List.{append_cancel_right}
use Rattle.std.specs.Cmp.Lexicographic.{pointwise, told_text}
use Rattle.capnp_wire.specs.Prelude.{Form, numbers, Trees, Shape, At, at, root, unlimited_root, Denotes, Accepts, Reads, IsText, TakesText, IsTextTree}
use Rattle.capnp_build.specs.Prelude.{Space, used_of, message, IsSet}
use Rattle.capnp_uses.specs.Roots.{HasRootForm}
use Rattle.capnp_uses.proofs.BuiltRootViewLemmas.{root_denotes, root_is_read}

text_is_root : (spaces : List Space) (bytes : List ℕ) → IsSet (λ trees. IsTextTree bytes trees) false spaces → HasRootForm spaces (numbers 2 (bytes ++ 0 ∷ []))
text_is_root spaces bytes set = (set.traversed, subst (λ (t : Trees). At (message spaces) (root ∷ []) t set.traversed) set.tree_is.1 set.is_at)

form_denoted : (spaces : List Space) (form : Form) → HasRootForm spaces form → (shape : Shape) × Denotes (unlimited_root (map used_of spaces)) shape × (shape.form ≡ form)
form_denoted spaces form (traversed, at {shape = shape} points inside others) = (shape, root_denotes spaces shape points, refl)

pub set_text_accepted : (spaces : List Space) (bytes : List ℕ) → IsSet (λ trees. IsTextTree bytes trees) false spaces → Accepts (unlimited_root (map used_of spaces)) TakesText
set_text_accepted spaces bytes set =
    let there = form_denoted spaces (numbers 2 (bytes ++ 0 ∷ [])) (text_is_root spaces bytes set) in
    (there.0, there.1, subst TakesText (sym there.2) (refl, (bytes, refl)))

pub text_read : (spaces : List Space) (bytes shown : List ℕ) → IsSet (λ trees. IsTextTree bytes trees) false spaces
    → Reads (unlimited_root (map used_of spaces)) (λ form. IsText form shown) → shown ≡ bytes
text_read spaces bytes shown set reads =
    let is = root_is_read spaces (numbers 2 (bytes ++ 0 ∷ [])) (λ form. IsText form shown) (text_is_root spaces bytes set) reads in
    append_cancel_right shown bytes (0 ∷ []) (sym is.1)

-- equal bytes are found equal
pub bytes_same : (xs ys : List ℕ) (r : Bool) → r ≡ pointwise nat_eq xs ys → xs ≡ ys → r ≡ true
bytes_same xs ys true reported same = refl
bytes_same xs ys false reported same = absurd (told_text xs ys false reported same)
