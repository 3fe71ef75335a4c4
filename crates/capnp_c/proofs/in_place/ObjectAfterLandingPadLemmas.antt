-- A far pointer points to the object that the list pointer in its landing pad of one word points to, and counts the landing pad.
use Rattle.std.proofs.Common.{◌≡◌, ℕ, ◌+◌, Some, List, refl, ap, ◌∙◌, subst, sym, zero-add, arith}
use Rattle.capnp_layout.specs.Prelude.{IsObject, IsFar, IsStart, Lands, PointsTo, Shape, Target, local, far, double_far, is_null, is_object, landing_pad, landing_pad_segment}
use Rattle.capnp_layout.specs.Prelude.{landing_pad_position, pointer_kind, word_at, shape_of, words_of}
use Rattle.capnp_layout.specs.declared.object.Object.{Object}
use Rattle.capnp_layout.specs.declared.place.Place.{Place}
use Rattle.capnp_layout.specs.Object.{following}

-- A far pointer with a landing pad of one word, in which a list pointer is.
module _ (m : List (List ℕ)) (place : Place) (word tag : ℕ) (word_there : word_at m place ≡ Some word) (narrow : IsFar word 0)
    (tag_there : word_at m (landing_pad word) ≡ Some tag) (list : pointer_kind tag ≡ 1) where
  -- it lands where that pointer does
  record LandsToo (landing : Target) : Type 0 where
    pub landing_too : Target
    pub lands : Lands m place landing_too
    pub segment : landing_too.segment ≡ landing.segment
    pub begins : (start : ℕ) → IsStart landing.origin landing.tag start → IsStart landing_too.origin landing_too.tag start

  lands_too : (landing : Target) → Lands m (landing_pad word) landing → LandsToo landing
  lands_too landing (local {word = own} there some kind) = record {
    landing_too = record { segment = landing_pad_segment word; origin = following (landing_pad_position word); tag = own; landing_pads = 1 };
    lands = far word_there narrow there kind;
    segment = refl;
    begins = λ start is. is;
  }
  lands_too landing (far {word = own} there is_far tag_is kind) =
      let same : own ≡ tag = cc in
      absurd (omega (arith, is_far.far, ap pointer_kind same, list))
  lands_too landing (double_far {word = own} there is_far inner_is inner_far tag_is content kind) =
      let same : own ≡ tag = cc in
      absurd (omega (arith, is_far.far, ap pointer_kind same, list))

  points_too : (shape : Shape) → PointsTo m (landing_pad word) shape → PointsTo m place (record shape { traversed = 1 + shape.traversed })
  points_too shape (is_null there) =
      let same : 0 ≡ tag = cc in
      absurd (omega (arith, ap pointer_kind same, list))
  points_too shape (is_object {shape = own} (local there some kind) content begins is) =
      subst (λ (t : ℕ). PointsTo m place (record own { traversed = 1 + t })) (sym (zero-add own.traversed)) (is_object (far word_there narrow there kind) content begins is)
  points_too shape (is_object (far {word = own} there is_far tag_is kind) content begins is) =
      let same : own ≡ tag = cc in
      absurd (omega (arith, is_far.far, ap pointer_kind same, list))
  points_too shape (is_object (double_far {word = own} there is_far inner_is inner_far tag_is there_too kind) content begins is) =
      let same : own ≡ tag = cc in
      absurd (omega (arith, is_far.far, ap pointer_kind same, list))

  lands_in : (landing : Target) → Lands m (landing_pad word) landing → landing.segment ≡ landing_pad_segment word
  lands_in landing (local there some kind) = refl
  lands_in landing (far {word = own} there is_far tag_is kind) =
      let same : own ≡ tag = cc in
      absurd (omega (arith, is_far.far, ap pointer_kind same, list))
  lands_in landing (double_far {word = own} there is_far inner_is inner_far tag_is content kind) =
      let same : own ≡ tag = cc in
      absurd (omega (arith, is_far.far, ap pointer_kind same, list))

  -- the object is in the landing pad's segment
  pub after_segment : (near : Object) → IsObject m (landing_pad word) near → near.start.segment ≡ landing_pad_segment word
  after_segment near is = sym is.number ∙ lands_in is.landing is.lands

  pub object_after : (near object : Object) → IsObject m (landing_pad word) near → object ≡ record near { traversed = near.traversed + 1 } → IsObject m place object
  object_after near object is same =
      let landed = lands_too is.landing is.lands in
      let more : 1 + near.traversed ≡ near.traversed + 1 = omega arith in
      let shape = shape_of (words_of near.segment.now) near.start near.body in
      subst (λ (o : Object). IsObject m place o) (sym same) (record {
        content = is.content;
        object = subst (λ (t : ℕ). PointsTo m place (record shape { traversed = t })) more (points_too (record shape { traversed = near.traversed }) is.object);
        landing = landed.landing_too;
        lands = landed.lands;
        number = landed.segment ∙ is.number;
        begins = landed.begins near.start.word is.begins;
        room = is.room;
        elements = is.elements;
        traversed = omega (arith, is.traversed);
        has_room = is.has_room;
      })
