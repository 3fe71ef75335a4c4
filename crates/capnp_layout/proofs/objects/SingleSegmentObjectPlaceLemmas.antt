-- An object that is read in a message of one segment, by a pointer that isn't far: it begins where the offset
-- says, and is within the segment.
use Rattle.std.proofs.Common.{◌≡◌, ◌≢◌, ℕ, ◌+◌, ◌*◌, ◌/◌, ◌^◌, ◌<◌, ◌≤◌, List, [], ◌∷◌, length, Some, slice_get, sym, ◌∙◌, ap, subst, arith}
use Rattle.capnp_layout.specs.Prelude.{pointer_kind, offset, words_of, word_at, IsStart, Target, Lands, local, far, double_far, Shape, ShapeIsAt, PointsTo, IsObject, shape_of, room_of}
use Rattle.capnp_layout.specs.Object.{following}
use Rattle.capnp_layout.specs.declared.place.Place.{Place}
use Rattle.capnp_layout.specs.declared.object.Object.{Object as ReadObject}
use Rattle.capnp_layout.proofs.pointers.LocalPointerTargetLemmas.{local_object}

-- what a pointer points to that is no far pointer
record LandsLocal (place : Place) (landing : Target) (word : ℕ) : Type 0 where
  is : landing ≡ record { segment = place.segment; origin = following place.word; tag = word; landing_pads = 0 }
  positive : 0 < word
  is_local : pointer_kind word < 2

lands_local : (m : List (List ℕ)) (place : Place) (landing : Target) (word : ℕ) → Lands m place landing → word_at m place ≡ Some word → pointer_kind word ≢ 2 → LandsLocal place landing word
lands_local m place landing word (local {word = w} e p k) there not_far =
    let same : w ≡ word = cc in
    record {
      is = ap (λ (x : ℕ). record { segment = place.segment; origin = following place.word; tag = x; landing_pads = 0 }) same;
      positive = omega arith;
      is_local = subst (λ (x : ℕ). pointer_kind x < 2) same k;
    }
lands_local m place landing word (far {word = w} e f p k) there not_far =
    let same : w ≡ word = cc in absurd (not_far (ap pointer_kind (sym same) ∙ f.far))
lands_local m place landing word (double_far {word = w} e f p g q r k) there not_far =
    let same : w ≡ word = cc in absurd (not_far (ap pointer_kind (sym same) ∙ f.far))

-- an object, and where it begins
abbrev pub shape_as : List ℕ → ReadObject → Shape
shape_as segment object = record (shape_of segment object.start object.body) { traversed = object.traversed }

pub record ReadLocal (segment : List ℕ) (word pointer : ℕ) (object : ReadObject) : Type 0 where
  pub positive : 0 < pointer
  pub is_local : pointer_kind pointer < 2
  pub content : words_of object.segment.now ≡ segment
  pub number : object.start.segment ≡ 0
  pub target : object.start.word + 2 ^ 30 * (offset pointer / 2 ^ 29) ≡ word + 1 + offset pointer
  pub object_is : PointsTo (segment ∷ []) (record { segment = 0; word = word }) (shape_as segment object)
  pub room : object.start.word + room_of object.body ≤ length segment
  pub shape : Shape
  pub is_at : ShapeIsAt segment (record { segment = 0; word = object.start.word }) pointer shape
  pub form_is : shape.form ≡ (shape_of segment object.start object.body).form
  pub children_is : shape.children ≡ (shape_of segment object.start object.body).children

pub read_local : (segment : List ℕ) (word pointer : ℕ) (object : ReadObject) → IsObject (segment ∷ []) (record { segment = 0; word = word }) object
    → length (words_of object.segment.now) ≡ length object.segment.now / 8
    → slice_get segment word ≡ Some pointer → pointer_kind pointer ≢ 2 → ReadLocal segment word pointer object
read_local segment word pointer object o long there not_far =
    let place : Place = record { segment = 0; word = word } in
    let n = lands_local (segment ∷ []) (record { segment = 0; word = word }) o.landing pointer o.lands there not_far in
    let begins : object.start.word + 2 ^ 30 * (offset pointer / 2 ^ 29) ≡ word + 1 + offset pointer = subst (λ (l : Target). IsStart l.origin l.tag object.start.word) n.is o.begins in
    let number : object.start.segment ≡ 0 = sym o.number ∙ ap (λ (l : Target). l.segment) n.is in
    let here : slice_get (segment ∷ []) 0 ≡ Some (words_of object.segment.now) = subst (λ (k : ℕ). slice_get (segment ∷ []) k ≡ Some (words_of object.segment.now)) number o.content in
    let content : words_of object.segment.now ≡ segment = cc in
    let object_is : PointsTo (segment ∷ []) (record { segment = 0; word = word }) (shape_as segment object) =
    subst (λ (l : List ℕ). PointsTo (segment ∷ []) (record { segment = 0; word = word }) (shape_as l object)) content o.object in
    let r = local_object segment word pointer (shape_as segment object) there n.positive n.is_local object_is in
    let start : r.start ≡ object.start.word = omega (arith, r.target, begins) in
    record {
      positive = n.positive;
      is_local = n.is_local;
      content = content;
      number = number;
      target = begins;
      object_is = object_is;
      room = omega (arith, o.room, ap (λ (l : List ℕ). length l) content);
      shape = r.shape;
      is_at = subst (λ (k : ℕ). ShapeIsAt segment (record { segment = 0; word = k }) pointer r.shape) start r.is_at;
      form_is = r.form_is;
      children_is = r.children_is;
    }
