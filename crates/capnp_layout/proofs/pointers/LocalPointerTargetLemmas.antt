-- A pointer to an object in its own segment: where that object begins, and that it is there.
use Rattle.std.proofs.Common.{◌≡◌, ℕ, ◌+◌, ◌*◌, ◌/◌, ◌^◌, ◌<◌, List, [], ◌∷◌, Some, slice_get, refl, subst, arith}
use Rattle.capnp_layout.specs.Prelude.{pointer_kind, offset, Form, Shape, local, far, double_far, ShapeIsAt, PointsTo, is_null, is_object}
use Rattle.capnp_layout.specs.declared.place.Place.{Place}

-- a pointer within its segment that is not null, and where its object starts
pub record Local (segment : List ℕ) (word tag : ℕ) (form : Form) (children : List Place) : Type 0 where
  pub start : ℕ
  pub shape : Shape
  pub target : start + 2 ^ 30 * (offset tag / 2 ^ 29) ≡ word + 1 + offset tag
  pub is_at : ShapeIsAt segment (record { segment = 0; word = start }) tag shape
  pub form_is : shape.form ≡ form
  pub children_is : shape.children ≡ children

pub local_object : (segment : List ℕ) (word tag : ℕ) (shape : Shape) → slice_get segment word ≡ Some tag → 0 < tag → pointer_kind tag < 2
    → PointsTo (segment ∷ []) (record { segment = 0; word = word }) shape
    → Local segment word tag shape.form shape.children
local_object segment word tag shape here positive is_local (is_null e) =
    let same : tag ≡ 0 = cc in absurd (omega arith)
local_object segment word tag shape here positive is_local (is_object {words = words} {start = start} {shape = inner} (local {word = w} e p k) w_is begins is_at) =
    let same : w ≡ tag = cc in
    let seg : words ≡ segment = cc in
    record {
      start = start;
      shape = inner;
      target = subst (λ (x : ℕ). start + 2 ^ 30 * (offset x / 2 ^ 29) ≡ word + 1 + offset x) same begins;
      is_at = subst (λ (x : ℕ). ShapeIsAt segment (record { segment = 0; word = start }) x inner) same (subst (λ (l : List ℕ). ShapeIsAt l
          (record { segment = 0; word = start }) w inner) seg is_at);
      form_is = refl;
      children_is = refl;
    }
local_object segment word tag shape here positive is_local (is_object (far {word = w} e f p k) w_is begins is_at) =
    let same : w ≡ tag = cc in absurd (omega (arith, f.far))
local_object segment word tag shape here positive is_local (is_object (double_far {word = w} e f p g q r k) w_is begins is_at) =
    let same : w ≡ tag = cc in absurd (omega (arith, f.far))
