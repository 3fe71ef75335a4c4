-- Where there is no segment there is no root: null is shown, and no field, number or byte is there. A type that
-- rejects what is shown rejects null.
use Rattle.std.proofs.Common.{◌≡◌, ◌<◌, ℕ, List, [], ◌∷◌, length, Result, Ok, Err, IfErr, refl, ap, sym, subst, arith}
use Rattle.capnp_frame.specs.declared.error.Error.{Error}
use Rattle.capnp_frame.specs.declared.error.ErrorKind.{ErrorKind}
use Rattle.capnp_layout.specs.Prelude.{Form, null, struct, numbers, Trees, none, tree, Root, root}
use Rattle.capnp_build.specs.Prelude.{Space, message, ForRoot, IsRootKind, RootFormError, HasField, HasNumber, ShowsRoot, HoldsForm}
use Rattle.capnp_build.specs.declared.root_kind.RootKind.{RootKind}
use Rattle.capnp_build.specs.declared.root_kind.RootKind.TheVariants.{Null, Bytes, Words, Struct, Other}
use Rattle.capnp_build.proofs.roots.NullRootTreeLemmas.{root_there}

-- without a segment there is no root
no_root : (form : Form) (children : Trees) (traversed : ℕ) → Root (message []) form children traversed → ⊥
no_root form children traversed there = let some : 0 < length {A = Space} [] = root_there [] (root ∷ []) (tree form children none) traversed refl there in absurd (omega (arith, some))

pub null_kind : (shown : RootKind) → IsRootKind shown [] → shown ≡ Null
null_kind Null is_kind = refl
null_kind (Bytes n) is_kind = absurd (no_root (numbers 2 is_kind.0) none is_kind.1 is_kind.2)
null_kind (Words n) is_kind = absurd (no_root (numbers 5 is_kind.0) none is_kind.1 is_kind.2)
null_kind (Struct n) is_kind = absurd (no_root (struct is_kind.0) is_kind.1 is_kind.2 is_kind.3)
null_kind Other is_kind = absurd (no_root is_kind.0 is_kind.1 is_kind.2 is_kind.3)

null_shown : (shown : RootKind) → IsRootKind shown [] → ShowsRoot shown null
null_shown shown is_kind = subst (λ kind. ShowsRoot kind null) (sym (null_kind shown is_kind)) refl

-- so where a kind is tested, there is a segment
pub bytes_have_segment : (n : ℕ) (spaces : List Space) → IsRootKind (Bytes n) spaces → spaces ≡ [] → ⊥
bytes_have_segment n spaces is_kind empty = let none : Bytes n ≡ Null = null_kind (Bytes n) (subst (λ s. IsRootKind (Bytes n) s) empty is_kind) in cc

pub no_field : (spaces : List Space) (index : ℕ) → HasField spaces index → spaces ≡ [] → ⊥
no_field spaces index field empty =
    let some = root_there spaces (root ∷ []) (tree (struct field.words) field.children none) field.traversed refl field.is_at in
    absurd (omega (arith, some, ap length empty))

pub no_number : (spaces : List Space) (index : ℕ) → HasNumber spaces index → spaces ≡ [] → ⊥
no_number spaces index number empty =
    let some = root_there spaces (root ∷ []) (tree (numbers 5 number.values) none none) number.traversed refl number.is_at in
    absurd (omega (arith, some, ap length empty))

-- a failure rejects the root, which is null where there is no segment
pub form_error_there : (spaces : List Space) (form_error : Form → ErrorKind → Type 0) (shown : RootKind) (bytes : List ℕ) (r : Result (Unit {0}) Error)
    → ForRoot spaces (ShowsRoot shown) → IsRootKind shown spaces → ForRoot spaces (HoldsForm bytes)
    → IfErr r (λ error. (form : Form) → ShowsRoot shown form → HoldsForm bytes form → form_error form error.kind) → IfErr r (λ error. RootFormError form_error spaces error.kind)
form_error_there spaces form_error shown bytes (Ok done) shows is_kind holds is = tt
form_error_there [] form_error shown bytes (Err error) shows is_kind holds is = is null (null_shown shown is_kind) tt
form_error_there (s ∷ spaces) form_error shown bytes (Err error) shows is_kind holds is = λ form children traversed there. is form (shows form children traversed there) (holds form children traversed there)
