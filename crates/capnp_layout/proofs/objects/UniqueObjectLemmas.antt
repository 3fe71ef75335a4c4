-- At most one object, and one tree, is at a place.
use Rattle.std.proofs.Common.{◌≡◌, ℕ, List, Some, refl, ap, subst, sym, ◌∙◌, arith}
use Rattle.capnp_layout.specs.Prelude.{list_count, offset, data_words, pointer_words, Trees, word_at, Origin, exactly, IsStart, Target, Lands, local, far, double_far, landing_pad, landing_pad_tag, Shape, ShapeIsAt, structs_shape, a_struct, some_numbers, some_pointers, some_structs, PointsTo, is_null, is_object, At, nowhere, at}
use Rattle.capnp_layout.specs.Object.{following}
use Rattle.capnp_layout.specs.declared.place.Place.{Place}

pub one_word_at : (m : List (List ℕ)) (place : Place) (v w : ℕ) → word_at m place ≡ Some v → word_at m place ≡ Some w → v ≡ w
one_word_at m place v w e f = cc

pub one_start : (origin : Origin) (tag s t : ℕ) → IsStart origin tag s → IsStart origin tag t → s ≡ t
one_start (following word) tag s t p q = omega arith
one_start (exactly word) tag s t p q = p ∙ sym q

pub one_landing : (m : List (List ℕ)) (place : Place) (c d : Target) → Lands m place c → Lands m place d → c ≡ d
one_landing m place c d (local {word = v} e _ _) (local {word = w} f _ _) =
    let same : v ≡ w = one_word_at m place v w e f in cc
one_landing m place c d (local {word = v} e _ k) (far {word = w} f x _ _) = let same : v ≡ w = one_word_at m place v w e f in absurd (omega arith)
one_landing m place c d (local {word = v} e _ k) (double_far {word = w} f x _ _ _ _ _) = let same : v ≡ w = one_word_at m place v w e f in absurd (omega arith)
one_landing m place c d (far {word = v} e x _ _) (local {word = w} f _ k) = let same : v ≡ w = one_word_at m place v w e f in absurd (omega arith)
one_landing m place c d (far {word = v} {tag = a} e x p _) (far {word = w} {tag = b} f y q _) =
    let same : v ≡ w = one_word_at m place v w e f in
    let tags : a ≡ b = one_word_at m (landing_pad w) a b (subst (λ z. word_at m (landing_pad z) ≡ Some a) same p) q in
    cc
one_landing m place c d (far {word = v} e x _ _) (double_far {word = w} f y _ _ _ _ _) = let same : v ≡ w = one_word_at m place v w e f in absurd (omega arith)
one_landing m place c d (double_far {word = v} e x _ _ _ _ _) (local {word = w} f _ k) = let same : v ≡ w = one_word_at m place v w e f in absurd (omega arith)
one_landing m place c d (double_far {word = v} e x _ _ _ _ _) (far {word = w} f y _ _) = let same : v ≡ w = one_word_at m place v w e f in absurd (omega arith)
one_landing m place c d (double_far {word = v} {inner = i} {tag = a} e _ p _ x _ _) (double_far {word = w} {inner = j} {tag = b} f _ q _ y _ _) =
    let same : v ≡ w = one_word_at m place v w e f in
    let inside : i ≡ j = one_word_at m (landing_pad w) i j (subst (λ z. word_at m (landing_pad z) ≡ Some i) same p) q in
    let tags : a ≡ b = one_word_at m (landing_pad_tag w) a b (subst (λ z. word_at m (landing_pad_tag z) ≡ Some a) same x) y in
    cc

pub one_shape : (words : List ℕ) (start : Place) (pointer : ℕ) (s t : Shape) → ShapeIsAt words start pointer s → ShapeIsAt words start pointer t → s ≡ t
one_shape words start pointer s t (a_struct k _) (a_struct l _) = refl
one_shape words start pointer s t (a_struct k _) (some_numbers l _ _) = absurd (omega arith)
one_shape words start pointer s t (a_struct k _) (some_pointers l _ _) = absurd (omega arith)
one_shape words start pointer s t (a_struct k _) (some_structs l _ _ _ _ _) = absurd (omega arith)
one_shape words start pointer s t (some_numbers k _ _) (a_struct l _) = absurd (omega arith)
one_shape words start pointer s t (some_numbers k _ _) (some_numbers l _ _) = refl
one_shape words start pointer s t (some_numbers k c _) (some_pointers l b _) = absurd (omega arith)
one_shape words start pointer s t (some_numbers k c _) (some_structs l b _ _ _ _) = absurd (omega arith)
one_shape words start pointer s t (some_pointers k _ _) (a_struct l _) = absurd (omega arith)
one_shape words start pointer s t (some_pointers k c _) (some_numbers l b _) = absurd (omega arith)
one_shape words start pointer s t (some_pointers k _ _) (some_pointers l _ _) = refl
one_shape words start pointer s t (some_pointers k c _) (some_structs l b _ _ _ _) = absurd (omega arith)
one_shape words start pointer s t (some_structs k _ _ _ _ _) (a_struct l _) = absurd (omega arith)
one_shape words start pointer s t (some_structs k c _ _ _ _) (some_numbers l b _) = absurd (omega arith)
one_shape words start pointer s t (some_structs k c _ _ _ _) (some_pointers l b _) = absurd (omega arith)
one_shape words start pointer s t (some_structs {tag = v} _ _ _ e _ _) (some_structs {tag = w} _ _ _ f _ _) =
    let same : v ≡ w = cc in
    ap (λ x. structs_shape words start (data_words x) (pointer_words x) (offset x) (list_count pointer)) same

pub null_lands_nowhere : (m : List (List ℕ)) (place : Place) (c : Target) → word_at m place ≡ Some 0 → Lands m place c → ⊥
null_lands_nowhere m place c e (local {word = w} f positive _) = let none : 0 ≡ w = one_word_at m place 0 w e f in omega arith
null_lands_nowhere m place c e (far {word = w} f k _ _) = let none : 0 ≡ w = one_word_at m place 0 w e f in omega arith
null_lands_nowhere m place c e (double_far {word = w} f k _ _ _ _ _) = let none : 0 ≡ w = one_word_at m place 0 w e f in omega arith

pub one_object : (m : List (List ℕ)) (place : Place) (s t : Shape) → PointsTo m place s → PointsTo m place t → s ≡ t
one_object m place s t (is_null e) (is_null f) = refl
one_object m place s t (is_null e) (is_object lands _ _ _) = absurd (null_lands_nowhere m place _ e lands)
one_object m place s t (is_object lands _ _ _) (is_null e) = absurd (null_lands_nowhere m place _ e lands)
one_object m place s t (is_object {landing = c} {words = v} {start = i} {shape = a} lands e begins is_at) (is_object {landing = d} {words = w} {start = j} {shape = b} lands' f begins' is_at') =
    let landing : c ≡ d = one_landing m place c d lands lands' in
    let words : v ≡ w = cc in
    let start : i ≡ j = one_start d.origin d.tag i j (subst (λ (x : Target). IsStart x.origin x.tag i) landing begins) begins' in
    let moved : ShapeIsAt w (record { segment = d.segment; word = j }) d.tag a =
    subst (λ (x : ℕ). ShapeIsAt w (record { segment = d.segment; word = x }) d.tag a) start
    (subst (λ (x : Target). ShapeIsAt w (record { segment = x.segment; word = i }) x.tag a) landing
    (subst (λ x. ShapeIsAt x (record { segment = c.segment; word = i }) c.tag a) words is_at)) in
    let shape : a ≡ b = one_shape w (record { segment = d.segment; word = j }) d.tag a b moved is_at' in
    cc

pub one_tree : (m : List (List ℕ)) (places : List Place) (a b : Trees) (x y : ℕ) → At m places a x → At m places b y → (a ≡ b) × (x ≡ y)
one_tree m places a b x y nowhere nowhere = (refl, refl)
one_tree m places a b x y (at {others = others} {shape = s} {children = h} {rest = r} {inside = i} {following = n} o inner after)
    (at {shape = t} {children = h'} {rest = r'} {inside = i'} {following = n'} o' inner' after') =
    let shape : s ≡ t = one_object m _ s t o o' in
    let children = one_tree m t.children h h' i i' (subst (λ z. At m z.children h i) shape inner) inner' in
    let rest = one_tree m others r r' n n' after after' in
    (cc, cc)
