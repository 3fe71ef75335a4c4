-- Where a pointer fails with an error, it points to no object within the nesting depth left.
use Rattle.std.proofs.Common.{◌≡◌, ℕ, ◌+◌, ◌*◌, ◌<◌, ◌≤◌, true, false, List, Some, None, slice_get, refl, sym, ◌∙◌, ap, subst, arith}
use Rattle.capnp_frame.specs.declared.error.ErrorKind.{ErrorKind}
use Rattle.capnp_layout.specs.Prelude.{width, words_for, pointer_kind, code, has_wide_landing_pad, landing_pad_segment, offset, data_words, pointer_words, list_count, word_at, IsFar, landing_pad, landing_pad_tag, IsStart, Target, Lands, local, far, double_far, Shape, ShapeIsAt, a_struct, some_numbers, some_pointers, some_structs, PointsTo, nothing, is_null as null_there, is_object, NoWord, no_segment, past_segment, BadLandingPad, no_landing_pad, far_again, landing_pad_capability, no_tag, not_far, no_content, far_tag, capability_tag, SizeError, struct_outside, list_outside, structs_outside, odd_tag, many_elements, PointerError, no_word, capability, bad_landing_pad, too_deep, no_start, misfits}
use Rattle.capnp_layout.specs.Tree.{is_null}
use Rattle.capnp_layout.specs.declared.place.Place.{Place}
use Rattle.capnp_layout.proofs.objects.UniqueObjectLemmas.{one_word_at, one_landing, one_start, null_lands_nowhere}

-- a word is there where none is missing
pub no_word_there : (m : List (List ℕ)) (place : Place) (kind : ErrorKind) → NoWord m place kind → word_at m place ≡ None
no_word_there m place kind (no_segment e) = rw e refl
no_word_there m place kind (past_segment {words = w} e f) = rw e f

pub lands_by_a_word : (m : List (List ℕ)) (place : Place) (c : Target) → word_at m place ≡ None → Lands m place c → ⊥
lands_by_a_word m place c none (local e _ _) = cc
lands_by_a_word m place c none (far e _ _ _) = cc
lands_by_a_word m place c none (double_far e _ _ _ _ _ _) = cc

pub capability_lands_nowhere : (m : List (List ℕ)) (place : Place) (word : ℕ) (c : Target) → word_at m place ≡ Some word → pointer_kind word ≡ 3 → Lands m place c → ⊥
capability_lands_nowhere m place word c e k (local {word = w} f _ t) = let same : word ≡ w = cc in omega arith
capability_lands_nowhere m place word c e k (far {word = w} f t _ _) = let same : word ≡ w = cc in omega arith
capability_lands_nowhere m place word c e k (double_far {word = w} f t _ _ _ _ _) = let same : word ≡ w = cc in omega arith

-- what the landing pad of a far pointer has where the pointer points to an object
record Narrow (m : List (List ℕ)) (word : ℕ) : Type 0 where
  tag : ℕ
  there : word_at m (landing_pad word) ≡ Some tag
  local_kind : pointer_kind tag < 2

record Wide (m : List (List ℕ)) (word : ℕ) : Type 0 where
  inner : ℕ
  tag : ℕ
  words : List ℕ
  first : word_at m (landing_pad word) ≡ Some inner
  is_far : IsFar inner 0
  second : word_at m (landing_pad_tag word) ≡ Some tag
  content : slice_get m (landing_pad_segment inner) ≡ Some words
  local_kind : pointer_kind tag < 2

narrow_landing_pad : (m : List (List ℕ)) (place : Place) (word : ℕ) (c : Target) → word_at m place ≡ Some word → pointer_kind word ≡ 2 → has_wide_landing_pad word ≡ 0 → Lands m place c → Narrow m word
narrow_landing_pad m place word c e k narrow (local {word = w} f _ t) = let same : word ≡ w = cc in absurd (omega arith)
narrow_landing_pad m place word c e k narrow (far {word = w} {tag = a} f x p t) =
    let same : w ≡ word = cc in record { tag = a; there = subst (λ z. word_at m (landing_pad z) ≡ Some a) same p; local_kind = t }
narrow_landing_pad m place word c e k narrow (double_far {word = w} f x _ _ _ _ _) = let same : word ≡ w = cc in absurd (omega arith)

wide_landing_pad : (m : List (List ℕ)) (place : Place) (word : ℕ) (c : Target) → word_at m place ≡ Some word → pointer_kind word ≡ 2 → has_wide_landing_pad word ≡ 1 → Lands m place c → Wide m word
wide_landing_pad m place word c e k wide (local {word = w} f _ t) = let same : word ≡ w = cc in absurd (omega arith)
wide_landing_pad m place word c e k wide (far {word = w} f x _ _) = let same : word ≡ w = cc in absurd (omega arith)
wide_landing_pad m place word c e k wide (double_far {word = w} {inner = i} {tag = a} {words = l} f _ p x q s t) =
    let same : w ≡ word = cc in
    record {
      inner = i;
      tag = a;
      words = l;
      first = subst (λ z. word_at m (landing_pad z) ≡ Some i) same p;
      is_far = x;
      second = subst (λ z. word_at m (landing_pad_tag z) ≡ Some a) same q;
      content = s;
      local_kind = t;
    }

first_of_landing_pad : (m : List (List ℕ)) (place : Place) (word : ℕ) (c : Target) → word_at m place ≡ Some word → pointer_kind word ≡ 2 → word_at m (landing_pad word) ≡ None → Lands m place c → ⊥
first_of_landing_pad m place word c e k none (local {word = w} f _ t) = let same : word ≡ w = cc in omega arith
first_of_landing_pad m place word c e k none (far {word = w} {tag = a} f x p t) =
    let same : w ≡ word = cc in let there : word_at m (landing_pad word) ≡ Some a = subst (λ z. word_at m (landing_pad z) ≡ Some a) same p in cc
first_of_landing_pad m place word c e k none (double_far {word = w} {inner = i} f _ p x q s t) =
    let same : w ≡ word = cc in let there : word_at m (landing_pad word) ≡ Some i = subst (λ z. word_at m (landing_pad z) ≡ Some i) same p in cc

pub bad_landing_pad_points_nowhere : (m : List (List ℕ)) (place : Place) (word : ℕ) (kind : ErrorKind) (c : Target) → word_at m place ≡ Some word → pointer_kind word ≡ 2
    → BadLandingPad m word kind → Lands m place c → ⊥
bad_landing_pad_points_nowhere m place word kind c e k (no_landing_pad none) lands = first_of_landing_pad m place word c e k (no_word_there m (landing_pad word) kind none) lands
bad_landing_pad_points_nowhere m place word kind c e k (far_again {tag = a} narrow f g) lands =
    let n = narrow_landing_pad m place word c e k narrow lands in
    let same : a ≡ n.tag = one_word_at m (landing_pad word) a n.tag f n.there in omega (arith, n.local_kind)
bad_landing_pad_points_nowhere m place word kind c e k (landing_pad_capability {tag = a} narrow f g) lands =
    let n = narrow_landing_pad m place word c e k narrow lands in
    let same : a ≡ n.tag = one_word_at m (landing_pad word) a n.tag f n.there in omega (arith, n.local_kind)
bad_landing_pad_points_nowhere m place word kind c e k (no_tag wide f g) lands =
    let w = wide_landing_pad m place word c e k wide lands in let second = w.second in cc
bad_landing_pad_points_nowhere m place word kind c e k (not_far {inner = i} wide f g none) lands =
    let w = wide_landing_pad m place word c e k wide lands in
    none (subst (λ z. IsFar z 0) (one_word_at m (landing_pad word) w.inner i w.first f) w.is_far)
bad_landing_pad_points_nowhere m place word kind c e k (no_content {inner = i} wide f g _ none) lands =
    let w = wide_landing_pad m place word c e k wide lands in
    let content : slice_get m (landing_pad_segment i) ≡ Some w.words = subst (λ z. slice_get m (landing_pad_segment z) ≡ Some w.words) (one_word_at m (landing_pad word) w.inner i w.first f) w.content in
    cc
bad_landing_pad_points_nowhere m place word kind c e k (far_tag {tag = a} wide f g _ _ h) lands =
    let w = wide_landing_pad m place word c e k wide lands in
    let same : a ≡ w.tag = one_word_at m (landing_pad_tag word) a w.tag g w.second in omega (arith, w.local_kind)
bad_landing_pad_points_nowhere m place word kind c e k (capability_tag {tag = a} wide f g _ _ h) lands =
    let w = wide_landing_pad m place word c e k wide lands in
    let same : a ≡ w.tag = one_word_at m (landing_pad_tag word) a w.tag g w.second in omega (arith, w.local_kind)

-- a list of pointers has a word for each
pub words_for_pointers : (n code : ℕ) → code ≡ 6 → words_for n (width code) ≡ n
words_for_pointers n code six = let whole : words_for n 64 ≡ n = omega arith in ap (λ (c : ℕ). words_for n (width c)) six ∙ whole

-- a size that fits is accepted
fits_or_not : (words : List ℕ) (start : Place) (pointer : ℕ) (kind : ErrorKind) (s : Shape) → SizeError words start.word pointer kind → ShapeIsAt words start pointer s → ⊥
fits_or_not words start pointer kind s (struct_outside k l) (a_struct j f) = omega arith
fits_or_not words start pointer kind s (struct_outside k l) (some_numbers j _ _) = omega arith
fits_or_not words start pointer kind s (struct_outside k l) (some_pointers j _ _) = omega arith
fits_or_not words start pointer kind s (struct_outside k l) (some_structs j _ _ _ _ _) = omega arith
fits_or_not words start pointer kind s (list_outside k c l) (a_struct j _) = omega arith
fits_or_not words start pointer kind s (list_outside k c l) (some_numbers j _ f) = omega arith
fits_or_not words start pointer kind s (list_outside k c l) (some_pointers j d f) = let n = words_for_pointers (list_count pointer) (code pointer) d in omega arith
fits_or_not words start pointer kind s (list_outside k c l) (some_structs j d _ _ _ _) = omega arith
fits_or_not words start pointer kind s (structs_outside k c l) (a_struct j _) = omega arith
fits_or_not words start pointer kind s (structs_outside k c l) (some_numbers j d _) = omega arith
fits_or_not words start pointer kind s (structs_outside k c l) (some_pointers j d _) = omega arith
fits_or_not words start pointer kind s (structs_outside k c l) (some_structs j _ f _ _ _) = omega arith
fits_or_not words start pointer kind s (odd_tag k c _ e odd) (a_struct j _) = omega arith
fits_or_not words start pointer kind s (odd_tag k c _ e odd) (some_numbers j d _) = omega arith
fits_or_not words start pointer kind s (odd_tag k c _ e odd) (some_pointers j d _) = omega arith
fits_or_not words start pointer kind s (odd_tag {tag = a} k c _ e odd) (some_structs {tag = b} j _ _ f even _) = let same : a ≡ b = cc in omega arith
fits_or_not words start pointer kind s (many_elements k c _ e _ many) (a_struct j _) = omega arith
fits_or_not words start pointer kind s (many_elements k c _ e _ many) (some_numbers j d _) = omega arith
fits_or_not words start pointer kind s (many_elements k c _ e _ many) (some_pointers j d _) = omega arith
fits_or_not words start pointer kind s (many_elements {tag = a} k c _ e _ many) (some_structs {tag = b} j _ _ f _ few) =
    let same : a ≡ b = cc in
    let few_too : offset a * (data_words a + pointer_words a) ≤ list_count pointer = subst (λ x. offset x * (data_words x + pointer_words x) ≤ list_count pointer) (sym same) few in
    omega (arith, many, few_too)

pub not_null : (words : List ℕ) (start : Place) (tag : ℕ) (shape : Shape) → ShapeIsAt words start tag shape → is_null shape.form ≡ false
not_null words start tag shape (a_struct _ _) = refl
not_null words start tag shape (some_numbers _ _ _) = refl
not_null words start tag shape (some_pointers _ _ _) = refl
not_null words start tag shape (some_structs _ _ _ _ _ _) = refl

-- an object, and how it is reached
record Reached (m : List (List ℕ)) (place : Place) : Type 0 where
  landing : Target
  words : List ℕ
  start : ℕ
  shape : Shape
  lands : Lands m place landing
  content : slice_get m landing.segment ≡ Some words
  begins : IsStart landing.origin landing.tag start
  is_at : ShapeIsAt words (record { segment = landing.segment; word = start }) landing.tag shape

reached : (m : List (List ℕ)) (place : Place) (landing : Target) (shape : Shape) → Lands m place landing → PointsTo m place shape → Reached m place
reached m place landing shape lands (null_there e) = absurd (null_lands_nowhere m place landing e lands)
reached m place landing shape lands (is_object {landing = c} {words = w} {start = i} {shape = s} lands' e b is_at) =
    record { landing = c; words = w; start = i; shape = s; lands = lands'; content = e; begins = b; is_at = is_at }

-- a pointer that points somewhere is not null
pub deep_enough : (m : List (List ℕ)) (place : Place) (landing : Target) (nesting : ℕ) (shape : Shape) → Lands m place landing → PointsTo m place shape
    → (is_null shape.form ≡ false → 0 < nesting) → 0 < nesting
deep_enough m place landing nesting shape lands (null_there e) deep = absurd (null_lands_nowhere m place landing e lands)
deep_enough m place landing nesting shape lands (is_object {landing = c} {words = w} {start = i} {shape = s} _ _ _ is_at) deep = deep (not_null w _ c.tag s is_at)

null_word : (m : List (List ℕ)) (place : Place) (shape : Shape) → is_null shape.form ≡ true → PointsTo m place shape → word_at m place ≡ Some 0
null_word m place shape e (null_there f) = f
null_word m place shape e (is_object {landing = c} {words = w} {start = i} {shape = s} _ _ _ is_at) =
    let some : is_null s.form ≡ false = not_null w (record { segment = c.segment; word = i }) c.tag s is_at in cc

pub word_of_null : (m : List (List ℕ)) (place : Place) → PointsTo m place nothing → word_at m place ≡ Some 0
word_of_null m place object = null_word m place nothing refl object

pub word_of_object : (m : List (List ℕ)) (place : Place) (shape : Shape) → word_at m place ≡ None → PointsTo m place shape → ⊥
word_of_object m place shape none (null_there e) = cc
word_of_object m place shape none (is_object {landing = c} lands _ _ _) = lands_by_a_word m place c none lands

capability_is_no_object : (m : List (List ℕ)) (place : Place) (word : ℕ) (shape : Shape) → word_at m place ≡ Some word → pointer_kind word ≡ 3 → PointsTo m place shape → ⊥
capability_is_no_object m place word shape e k (null_there f) = let same : word ≡ 0 = one_word_at m place word 0 e f in omega arith
capability_is_no_object m place word shape e k (is_object {landing = c} lands _ _ _) = capability_lands_nowhere m place word c e k lands

bad_landing_pad_has_no_object : (m : List (List ℕ)) (place : Place) (word : ℕ) (kind : ErrorKind) (shape : Shape) → word_at m place ≡ Some word → pointer_kind word ≡ 2
    → BadLandingPad m word kind → PointsTo m place shape → ⊥
bad_landing_pad_has_no_object m place word kind shape e k bad (null_there f) = let same : word ≡ 0 = one_word_at m place word 0 e f in omega arith
bad_landing_pad_has_no_object m place word kind shape e k bad (is_object {landing = c} lands _ _ _) = bad_landing_pad_points_nowhere m place word kind c e k bad lands

pub invalid_pointer_has_no_object : (m : List (List ℕ)) (place : Place) (nesting : ℕ) (kind : ErrorKind) (shape : Shape) → PointerError m place nesting kind → PointsTo m place shape
    → (is_null shape.form ≡ false → 0 < nesting) → ⊥
invalid_pointer_has_no_object m place nesting kind shape (no_word none) object deep = word_of_object m place shape (no_word_there m place kind none) object
invalid_pointer_has_no_object m place nesting kind shape (capability {word = w} e k) object deep = capability_is_no_object m place w shape e k object
invalid_pointer_has_no_object m place nesting kind shape (bad_landing_pad {word = w} e k bad) object deep = bad_landing_pad_has_no_object m place w kind shape e k bad object
invalid_pointer_has_no_object m place nesting kind shape (too_deep {landing = c} lands nesting_is) object deep =
    let enough = deep_enough m place c nesting shape lands object deep in omega arith
invalid_pointer_has_no_object m place nesting kind shape (no_start {landing = c} lands _ none) object deep =
    let r = reached m place c shape lands object in
    let same : r.landing ≡ c = one_landing m place r.landing c r.lands lands in
    none r.start (subst (λ (x : Target). IsStart x.origin x.tag r.start) same r.begins)
invalid_pointer_has_no_object m place nesting kind shape (misfits {landing = c} {words = w} {start = i} lands _ begins content misfit) object deep =
    let r = reached m place c shape lands object in
    let same : r.landing ≡ c = one_landing m place r.landing c r.lands lands in
    let content_there : slice_get m c.segment ≡ Some r.words = subst (λ (x : Target). slice_get m x.segment ≡ Some r.words) same r.content in
    let words : r.words ≡ w = cc in
    let start : r.start ≡ i = one_start c.origin c.tag r.start i (subst (λ (x : Target). IsStart x.origin x.tag r.start) same r.begins) begins in
    let moved : ShapeIsAt w (record { segment = c.segment; word = i }) c.tag r.shape =
    subst (λ (x : ℕ). ShapeIsAt w (record { segment = c.segment; word = x }) c.tag r.shape) start
    (subst (λ (x : Target). ShapeIsAt w (record { segment = x.segment; word = r.start }) x.tag r.shape) same
    (subst (λ x. ShapeIsAt x (record { segment = r.landing.segment; word = r.start }) r.landing.tag r.shape) words r.is_at)) in
    fits_or_not w (record { segment = c.segment; word = i }) c.tag kind r.shape misfit moved
