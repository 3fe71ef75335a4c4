-- How pointers are resolved, also through landing pads of one or two words: to where the object is, or to the
-- error.
use Rattle.std.proofs.Common.{inl, inr, ◌≡◌, ℕ, ◌+◌, ◌*◌, ◌/◌, ◌^◌, ◌≤◌, Bool, true, false, not, if◌then◌else◌, List, Some, None, MatchOption, Option, slice_get, refl, sym, ◌∙◌, ap, subst, arith}
use Rattle.std.proofs.Common.{Result, Ok, Err, IfOk, IfErr}
use Rattle.std.specs.Result.{IsErrAnd}
use Rattle.capnp_frame.specs.declared.error.Error.{Error}
use Rattle.capnp_frame.specs.declared.error.ErrorKind.{ErrorKind}
use Rattle.capnp_frame.specs.declared.error.ErrorKind.TheVariants.{PointerOutOfBounds, InvalidSegmentId}
use Rattle.capnp_layout.specs.Prelude.{words_of, has_wide_landing_pad, landing_pad_segment, landing_pad_position, IsLocal, IsLocalShape, IsFarPointer, message_of, word_at, landing_pad, landing_pad_tag, IsFar, exactly, IsStart, Lands, far as by_landing_pad, double_far, ShapeIsAt, PointsTo, is_object, HasWideLandingPad, IsLanding, NotLocal, shape_of, traversed_of, NoWord, no_segment, past_segment, BadLandingPad, no_landing_pad, far_again, landing_pad_capability, far_tag, capability_tag}
use Rattle.capnp_layout.specs.Object.{following}
use Rattle.capnp_layout.specs.declared.place.Place.{Place}
use Rattle.capnp_layout.specs.declared.object.Body.{Body}
use Rattle.capnp_layout.specs.declared.object.Body.TheVariants.{Struct, Numbers, Pointers, Structs}
use Rattle.capnp_layout.specs.declared.landing_pad.Landing.{Landing as ReadLanding}
use Rattle.capnp_layout.specs.declared.pointer.FarPointer.{FarPointer}
use Rattle.capnp_layout.specs.declared.pointer.LocalPointer.{LocalPointer}
use Rattle.capnp_layout.proofs.words.WordAtPlaceLemmas.{segment_is_there, no_segment_is_there, word_is_in_message, no_word_is_there}

-- what `?` passes on is of the same kind as the error that it returns
pub passed_kind : {Y : Type 0} {error : Error} {kind : ErrorKind} (result : Result Y Error) → IsErrAnd result (λ y. y ≡ error) → error.kind ≡ kind → IsErrAnd result (λ y. y.kind ≡ kind)
passed_kind (Ok y) is same = absurd is
passed_kind (Err e) is same = ap (λ (x : Error). x.kind) is ∙ same

-- what an offset from a word points to, if that is in its segment
abbrev pub OffsetPointsTo : Option ℕ → ℕ → ℕ → Type 0
OffsetPointsTo found bits word =
    MatchOption found ((start : ℕ) → start + 2 ^ 30 * (bits / 2 ^ 29) ≡ word + 1 + bits → ⊥) (λ start. start + 2 ^ 30 * (bits / 2 ^ 29) ≡ word + 1 + bits)

-- what the caller has seen of a pointer within its segment, and what is read of its target
pub record Seen (from : Place) (landing_pads : ℕ) (local : LocalPointer) (bytes : List ℕ) (read : ReadLanding) : Type 0 where
  pub segment : read.segment.now ≡ bytes
  pub number : read.number ≡ from.segment
  pub shape : read.shape ≡ local.shape
  pub landing_pads_are : read.landing_pads ≡ landing_pads
  pub start : OffsetPointsTo read.start local.offset.0 from.word

pub local_landing : (m : List (List ℕ)) (place from : Place) (word landing_pads : ℕ) (local : LocalPointer) (bytes : List ℕ) (read : ReadLanding)
    → Lands m place (record { segment = from.segment; origin = following from.word; tag = word; landing_pads = landing_pads }) → landing_pads ≤ 2
    → slice_get m from.segment ≡ Some (words_of bytes) → IsLocal word local → Seen from landing_pads local bytes read → IsLanding m place read
local_landing m place from word landing_pads local bytes read lands few content local_is seen = record {
  landing = record { segment = from.segment; origin = following from.word; tag = word; landing_pads = landing_pads };
  lands = lands;
  number = sym seen.number;
  content = content ∙ ap (λ (l : List ℕ). Some (words_of l)) (sym seen.segment);
  shape = subst (IsLocalShape word) (sym seen.shape) local_is.shape_is;
  start = subst (λ (x : ℕ). OffsetPointsTo read.start x from.word) local_is.offset_is seen.start;
  landing_pads = sym seen.landing_pads_are;
  few_landing_pads = few;
  small = local_is.small;
}

pub not_is_true : (b : Bool) → not b ≡ true → b ≡ false
not_is_true true e = cc
not_is_true false e = refl

pub not_is_false : (b : Bool) → not b ≡ false → b ≡ true
not_is_false true e = refl
not_is_false false e = cc

wide_bit : (wide : Bool) (bit : ℕ) → bit ≡ (if wide then 1 else 0) → wide ≡ false → bit ≡ 0
wide_bit true bit e narrow = cc
wide_bit false bit e narrow = e

narrow_bit : (wide : Bool) (bit : ℕ) → bit ≡ (if wide then 1 else 0) → wide ≡ true → bit ≡ 1
narrow_bit true bit e wide = e
narrow_bit false bit e wide = cc

pub is_narrow : (word : ℕ) (far : FarPointer) → IsFarPointer word far → far.is_double_far ≡ false → has_wide_landing_pad word ≡ 0
is_narrow word far far_is narrow = wide_bit far.is_double_far (has_wide_landing_pad word) far_is.width narrow

pub is_double_far : (word : ℕ) (far : FarPointer) → IsFarPointer word far → far.is_double_far ≡ true → has_wide_landing_pad word ≡ 1
is_double_far word far far_is wide = narrow_bit far.is_double_far (has_wide_landing_pad word) far_is.width wide

-- the words of a landing pad, in the message
pub landing_pad_word : (segments : List (List ℕ)) (word : ℕ) (far : FarPointer) (bytes : List ℕ) (first : ℕ) → IsFarPointer word far
    → slice_get segments far.landing_pad.segment ≡ Some bytes → slice_get (words_of bytes) far.landing_pad.word ≡ Some first
    → word_at (message_of segments) (landing_pad word) ≡ Some first
landing_pad_word segments word far bytes first far_is segment e =
    subst (λ (x : Place). word_at (message_of segments) x ≡ Some first) far_is.landing_pad_is (word_is_in_message segments far.landing_pad bytes first segment e)

pub second_word : (segments : List (List ℕ)) (word : ℕ) (far : FarPointer) (bytes : List ℕ) (tag : ℕ) → IsFarPointer word far
    → slice_get segments far.landing_pad.segment ≡ Some bytes → slice_get (words_of bytes) (far.landing_pad.word + 1) ≡ Some tag
    → word_at (message_of segments) (landing_pad_tag word) ≡ Some tag
second_word segments word far bytes tag far_is segment e =
    subst (λ (x : Place). word_at (message_of segments) (record { segment = x.segment; word = x.word + 1 }) ≡ Some tag) far_is.landing_pad_is
    (word_is_in_message segments (record { segment = far.landing_pad.segment; word = far.landing_pad.word + 1 }) bytes tag segment e)

pub no_second_word : (segments : List (List ℕ)) (word : ℕ) (far : FarPointer) (bytes : List ℕ) → IsFarPointer word far
    → slice_get segments far.landing_pad.segment ≡ Some bytes → slice_get (words_of bytes) (far.landing_pad.word + 1) ≡ None
    → word_at (message_of segments) (landing_pad_tag word) ≡ None
no_second_word segments word far bytes far_is segment e =
    subst (λ (x : Place). word_at (message_of segments) (record { segment = x.segment; word = x.word + 1 }) ≡ None) far_is.landing_pad_is
    (no_word_is_there segments (record { segment = far.landing_pad.segment; word = far.landing_pad.word + 1 }) bytes segment e)

pub no_landing_pad_segment : (segments : List (List ℕ)) (word : ℕ) (far : FarPointer) (kind : ErrorKind) → IsFarPointer word far
    → slice_get segments far.landing_pad.segment ≡ None → kind ≡ InvalidSegmentId far.landing_pad.segment → BadLandingPad (message_of segments) word kind
no_landing_pad_segment segments word far kind far_is none is =
    let at_landing_pad : NoWord (message_of segments) far.landing_pad (InvalidSegmentId far.landing_pad.segment) = no_segment (no_segment_is_there segments far.landing_pad.segment none) in
    subst (BadLandingPad (message_of segments) word) (sym is)
    (no_landing_pad (subst (λ (x : Place). NoWord (message_of segments) x (InvalidSegmentId far.landing_pad.segment)) far_is.landing_pad_is at_landing_pad))

pub no_landing_pad_word : (segments : List (List ℕ)) (word : ℕ) (far : FarPointer) (bytes : List ℕ) (kind : ErrorKind) → IsFarPointer word far
    → slice_get segments far.landing_pad.segment ≡ Some bytes → slice_get (words_of bytes) far.landing_pad.word ≡ None → kind ≡ PointerOutOfBounds
    → BadLandingPad (message_of segments) word kind
no_landing_pad_word segments word far bytes kind far_is segment none is =
    let at_landing_pad : NoWord (message_of segments) far.landing_pad PointerOutOfBounds = past_segment (segment_is_there segments far.landing_pad.segment bytes segment) none in
    subst (BadLandingPad (message_of segments) word) (sym is)
    (no_landing_pad (subst (λ (x : Place). NoWord (message_of segments) x PointerOutOfBounds) far_is.landing_pad_is at_landing_pad))

-- the tag in a landing pad
pub narrow_error : (m : List (List ℕ)) (word tag : ℕ) (kind : ErrorKind) → has_wide_landing_pad word ≡ 0 → word_at m (landing_pad word) ≡ Some tag
    → NotLocal tag kind → BadLandingPad m word kind
narrow_error m word tag kind narrow e (inl far) = subst (BadLandingPad m word) (sym far.1) (far_again narrow e far.0)
narrow_error m word tag kind narrow e (inr other) = subst (BadLandingPad m word) (sym other.1) (landing_pad_capability narrow e other.0)

pub wide_error : (m : List (List ℕ)) (word inner tag : ℕ) (words : List ℕ) (kind : ErrorKind) → has_wide_landing_pad word ≡ 1 → word_at m (landing_pad word) ≡ Some inner
    → word_at m (landing_pad_tag word) ≡ Some tag → IsFar inner 0 → slice_get m (landing_pad_segment inner) ≡ Some words → NotLocal tag kind → BadLandingPad m word kind
wide_error m word inner tag words kind wide e f is_far content (inl far) = subst (BadLandingPad m word) (sym far.1) (far_tag wide e f is_far content far.0)
wide_error m word inner tag words kind wide e f is_far content (inr other) = subst (BadLandingPad m word) (sym other.1) (capability_tag wide e f is_far content other.0)

-- a far pointer with a landing pad of one word, as it is read, is a far pointer
pub is_far_word : (word : ℕ) (far : FarPointer) → IsFarPointer word far → far.is_double_far ≡ false → IsFar word 0
is_far_word word far far_is narrow = record { far = far_is.far_kind; wide = is_narrow word far far_is narrow }

pub wide_far_word : (word : ℕ) (f : FarPointer) → IsFarPointer word f → f.is_double_far ≡ true → IsFar word 1
wide_far_word word f f_is wide = record { far = f_is.far_kind; wide = is_double_far word f f_is wide }

-- what it points to, through that landing pad
pub narrow_landing : (segments : List (List ℕ)) (place : Place) (word : ℕ) (far : FarPointer) (bytes : List ℕ) (first : ℕ) (local : LocalPointer) (read : ReadLanding)
    → word_at (message_of segments) place ≡ Some word → IsFarPointer word far → far.is_double_far ≡ false → slice_get segments far.landing_pad.segment ≡ Some bytes
    → slice_get (words_of bytes) far.landing_pad.word ≡ Some first → IsLocal first local → Seen far.landing_pad 1 local bytes read → IsLanding (message_of segments) place read
narrow_landing segments place word far bytes first local read there far_is narrow segment here local_is seen =
    let m = message_of segments in
    let lands : Lands m place (record { segment = (landing_pad word).segment; origin = following (landing_pad word).word; tag = first; landing_pads = 1 }) =
    by_landing_pad there (is_far_word word far far_is narrow) (landing_pad_word segments word far bytes first far_is segment here) local_is.local_kind in
    let from_landing_pad : Lands m place (record { segment = far.landing_pad.segment; origin = following far.landing_pad.word; tag = first; landing_pads = 1 }) =
    subst (λ (x : Place). Lands m place (record { segment = x.segment; origin = following x.word; tag = first; landing_pads = 1 })) (sym far_is.landing_pad_is) lands in
    local_landing m place far.landing_pad first 1 local bytes read from_landing_pad (omega arith) (segment_is_there segments far.landing_pad.segment bytes segment) local_is seen

-- the two words of a landing pad
pub wide_landing_pad : {bytes : List ℕ} {first tag : ℕ} (segments : List (List ℕ)) (word : ℕ) (far : FarPointer) → IsFarPointer word far → far.is_double_far ≡ true
    → slice_get segments far.landing_pad.segment ≡ Some bytes → slice_get (words_of bytes) far.landing_pad.word ≡ Some first → slice_get (words_of bytes) (far.landing_pad.word + 1) ≡ Some tag
    → HasWideLandingPad (message_of segments) word first tag
wide_landing_pad segments word far far_is wide segment one two = record {
  wide = wide_far_word word far far_is wide;
  first_there = landing_pad_word segments word far _ _ far_is segment one;
  tag_there = second_word segments word far _ _ far_is segment two;
}

-- the object of a landing pad of two words
pub not_far_word : (inner : ℕ) → ((f : FarPointer) → IsFarPointer inner f × (f.is_double_far ≡ false) → ⊥) → IsFar inner 0 → ⊥
not_far_word inner none is_far = none (record { landing_pad = landing_pad inner; is_double_far = false }) (record { far_kind = is_far.far; landing_pad_is = refl; width = is_far.wide }, refl)

pub content_place : (inner : ℕ) (f : FarPointer) (place : Place) → IsFarPointer inner f → place ≡ f.landing_pad → place ≡ landing_pad inner
content_place inner f place f_is e = e ∙ f_is.landing_pad_is

pub wide_landing : (m : List (List ℕ)) (place content : Place) (word inner tag : ℕ) (local : LocalPointer) (bytes : List ℕ) (read : ReadLanding)
    → word_at m place ≡ Some word → IsFar word 1 → word_at m (landing_pad word) ≡ Some inner → IsFar inner 0 → word_at m (landing_pad_tag word) ≡ Some tag
    → content ≡ landing_pad inner → slice_get m content.segment ≡ Some (words_of bytes) → IsLocal tag local
    → read.segment.now ≡ bytes → read.number ≡ content.segment → read.start ≡ Some content.word → read.shape ≡ local.shape → read.landing_pads ≡ 2
    → IsLanding m place read
wide_landing m place content word inner tag local bytes read e wide first inner_far second content_is there local_is segment number start shape landing_pads_are =
    let there_too : slice_get m (landing_pad_segment inner) ≡ Some (words_of bytes) = subst (λ (x : Place). slice_get m x.segment ≡ Some (words_of bytes)) content_is there in
    let starts : read.start ≡ Some (landing_pad_position inner) = start ∙ ap (λ (x : Place). Some x.word) content_is in
    record {
      landing = record { segment = landing_pad_segment inner; origin = exactly (landing_pad_position inner); tag = tag; landing_pads = 2 };
      lands = double_far e wide first inner_far second there_too local_is.local_kind;
      number = sym (number ∙ ap (λ (x : Place). x.segment) content_is);
      content = there_too ∙ ap (λ (l : List ℕ). Some (words_of l)) (sym segment);
      shape = subst (IsLocalShape tag) (sym shape) local_is.shape_is;
      start = subst (λ (o : Option ℕ). MatchOption o ((s : ℕ) → s ≡ landing_pad_position inner → ⊥) (λ s. s ≡ landing_pad_position inner)) (sym starts) refl;
      landing_pads = sym landing_pads_are;
      few_landing_pads = omega arith;
      small = local_is.small;
    }

-- the object at a landing
traversed_of_shape : (words : List ℕ) (start : Place) (body : Body) → (shape_of words start body).traversed ≡ traversed_of body
traversed_of_shape words start (Struct size) = refl
traversed_of_shape words start (Numbers elements count) = refl
traversed_of_shape words start (Pointers count) = refl
traversed_of_shape words start (Structs elements after_tag) = refl

pub object_is_at : (m : List (List ℕ)) (place : Place) (read : ReadLanding) (start : ℕ) (body : Body) (traversed : ℕ) → IsLanding m place read → read.start ≡ Some start
    → ((tag number : ℕ) → IsLocalShape tag read.shape
    → ShapeIsAt (words_of read.segment.now) (record { segment = number; word = start }) tag (shape_of (words_of read.segment.now) (record { segment = number; word = start }) body))
    → traversed ≡ traversed_of body
    → PointsTo m place (record (shape_of (words_of read.segment.now) (record { segment = read.number; word = start }) body) { traversed = read.landing_pads + traversed })
object_is_at m place read start body traversed l e is_at traversed_is =
    let words = words_of read.segment.now in
    let landing = l.landing in
    let here : Place = record { segment = landing.segment; word = start } in
    let begins : IsStart landing.origin landing.tag start =
    subst (λ (o : Option ℕ). MatchOption o ((s : ℕ) → IsStart landing.origin landing.tag s → ⊥) (λ s. IsStart landing.origin landing.tag s)) e l.start in
    let found = is_at landing.tag landing.segment l.shape in
    let total : landing.landing_pads + (shape_of words here body).traversed ≡ read.landing_pads + traversed = omega (arith, l.landing_pads, traversed_of_shape words here body) in
    let object : PointsTo m place (record (shape_of words here body) { traversed = landing.landing_pads + (shape_of words here body).traversed }) =
    is_object l.lands l.content begins found in
    subst (λ (n : ℕ). PointsTo m place (record (shape_of words (record { segment = n; word = start }) body) { traversed = read.landing_pads + traversed })) l.number
    (subst (λ (x : ℕ). PointsTo m place (record (shape_of words here body) { traversed = x })) total object)

-- what is found, or which error is met, through a landing pad of two words
pub wide_found : {m : List (List ℕ)} {far : FarPointer} {first tag : ℕ} (result : Result ReadLanding Error) → ((word : ℕ) → IsFarPointer word far → HasWideLandingPad m word first tag)
    → IfOk result (λ landing. (place : Place) (word : ℕ) → word_at m place ≡ Some word → HasWideLandingPad m word first tag → IsLanding m place landing)
    → IfOk result (λ landing. (place : Place) (word : ℕ) → word_at m place ≡ Some word → IsFarPointer word far → IsLanding m place landing)
wide_found (Ok landing) both found = λ place word there far_is. found place word there (both word far_is)
wide_found (Err error) both found = tt

pub wide_errors : {m : List (List ℕ)} {far : FarPointer} {first tag : ℕ} (result : Result ReadLanding Error) → ((word : ℕ) → IsFarPointer word far → HasWideLandingPad m word first tag)
    → IfErr result (λ error. (word : ℕ) → HasWideLandingPad m word first tag → BadLandingPad m word error.kind) → IfErr result (λ error. (word : ℕ) → IsFarPointer word far → BadLandingPad m word error.kind)
wide_errors (Ok landing) both errors = tt
wide_errors (Err error) both errors = λ word far_is. errors word (both word far_is)
