-- A call that follows a pointer returns 0 where the object is read, and else the number of one error, by what it finds.
use Rattle.std.proofs.Common.{◌≡◌, inl, inr, ℕ, ◌<◌, Some, List, refl, sym, ap, ◌∙◌, subst, arith}
use Rattle.capnp_frame.specs.declared.error.ErrorKind.{ErrorKind}
use Rattle.capnp_frame.specs.declared.error.ErrorKind.TheVariants.{FailedToFillTheWholeBuffer, BufferNotLargeEnough, EmptyBuffer, EmptySlice}
use Rattle.capnp_frame.specs.declared.error.ErrorKind.TheVariants.{InvalidNumberOfSegments, MessageEndsPrematurely, MessageSizeOverflow}
use Rattle.capnp_frame.specs.declared.error.ErrorKind.TheVariants.{MessageTooLarge, PrematureEndOfFile, PrematureEndOfPackedInput}
use Rattle.capnp_frame.specs.declared.error.ErrorKind.TheVariants.{PackedInputDidNotEndCleanlyOnASegmentBoundary, OutOfMemory, DeviceFailed}
use Rattle.capnp_frame.specs.declared.error.ErrorKind.TheVariants.{NotWholeWords, AllocationTooLarge, SegmentTaken, PointerOutOfBounds}
use Rattle.capnp_frame.specs.declared.error.ErrorKind.TheVariants.{InvalidSegmentId, NestingLimitExceeded, ReadLimitExceeded, CapabilityRefused}
use Rattle.capnp_frame.specs.declared.error.ErrorKind.TheVariants.{WrongPointerKind, TextNotTerminated, CanonicalTooLarge, NotOneSegment, NonZeroPadding}
use Rattle.capnp_frame.specs.Prelude.{kind_number}
use Rattle.capnp_layout.specs.Prelude.{Form, Shape, PointsTo, PointerError, Within}
use Rattle.capnp_layout.specs.declared.place.Place.{Place}
use Rattle.capnp_layout.proofs.pointers.ErrorExcludesObjectLemmas.{invalid_pointer_has_no_object}
use Rattle.capnp_layout.proofs.pointers.UniquePointerErrorLemmas.{one_error}
use Rattle.capnp_wire.specs.Prelude.{Pointer, Denotes, nowhere, at_place, Shows, IsInvalidPointer}
use Rattle.capnp_wire.proofs.views.RejectedExcludesAcceptedLemmas.{one_denoted, Decides}
use Rattle.capnp_c.specs.Entering.{pointer_among}
use Rattle.capnp_c.specs.Reading.{HasTableOf, pointer_read, TakesOff, PassesLimit, ReadError, IsReadable}
use Rattle.capnp_c.specs.ReadingExports.{Follows}
use Rattle.capnp_c.specs.declared.reading.place.LinsjoarPlace.{LinsjoarPlace}
use Rattle.capnp_c.specs.declared.reading.reader.LinsjoarReader.{LinsjoarReader}
use Rattle.capnp_c.specs.declared.reading.segments.MessageSegments.{MessageSegments}

-- no error has the number of success
pub kind_positive : (kind : ErrorKind) → 0 < kind_number kind
kind_positive FailedToFillTheWholeBuffer = omega arith
kind_positive BufferNotLargeEnough = omega arith
kind_positive EmptyBuffer = omega arith
kind_positive EmptySlice = omega arith
kind_positive (InvalidNumberOfSegments count) = omega arith
kind_positive (MessageEndsPrematurely wanted there) = omega arith
kind_positive MessageSizeOverflow = omega arith
kind_positive (MessageTooLarge words) = omega arith
kind_positive PrematureEndOfFile = omega arith
kind_positive PrematureEndOfPackedInput = omega arith
kind_positive PackedInputDidNotEndCleanlyOnASegmentBoundary = omega arith
kind_positive OutOfMemory = omega arith
kind_positive DeviceFailed = omega arith
kind_positive NotWholeWords = omega arith
kind_positive (AllocationTooLarge words) = omega arith
kind_positive SegmentTaken = omega arith
kind_positive PointerOutOfBounds = omega arith
kind_positive (InvalidSegmentId segment) = omega arith
kind_positive NestingLimitExceeded = omega arith
kind_positive ReadLimitExceeded = omega arith
kind_positive CapabilityRefused = omega arith
kind_positive WrongPointerKind = omega arith
kind_positive TextNotTerminated = omega arith
kind_positive CanonicalTooLarge = omega arith
kind_positive NotOneSegment = omega arith
kind_positive NonZeroPadding = omega arith

-- the pointer among a reader's segments is the pointer that the reader means
pub same_pointer : (segments : MessageSegments) (reader : LinsjoarReader) (bytes : List ℕ) (place : LinsjoarPlace) → segments.count ≡ reader.segments
    → segments.bytes.now ≡ bytes → segments.begins.now ≡ reader.begins → pointer_among segments reader place ≡ pointer_read reader bytes place
same_pointer segments reader bytes place count same begins = rw (count, same, begins) refl

error_denotes_nothing : (p : Pointer) (place : Place) (kind : ErrorKind) (s : Shape) → p.place ≡ Some place → PointerError p.message place p.nesting kind → Denotes p s → ⊥
error_denotes_nothing p place kind s e invalid (nowhere f) = cc
error_denotes_nothing p place kind s e invalid (at_place {place = b} f o deep) =
    let same : b ≡ place = cc in
    invalid_pointer_has_no_object p.message place p.nesting kind s invalid (subst (λ x. PointsTo p.message x s) same o) deep

pub invalid_denotes_nothing : (p : Pointer) (kind : ErrorKind) (s : Shape) → IsInvalidPointer p kind → Denotes p s → ⊥
invalid_denotes_nothing p kind s invalid there = error_denotes_nothing p invalid.0 kind s invalid.1 invalid.2 there

pub one_invalid : (p : Pointer) (kind other : ErrorKind) → IsInvalidPointer p kind → IsInvalidPointer p other → kind ≡ other
one_invalid p kind other a b =
    let there : p.place ≡ Some a.0 = a.1 in
    let it : p.place ≡ Some b.0 = b.1 in
    let same : a.0 ≡ b.0 = cc in
    one_error p.message b.0 p.nesting kind other (subst (λ (x : Place). PointerError p.message x p.nesting kind) same a.2) b.2

-- what is accepted within the limit is read
pub readable : (p : Pointer) (takes : Form → Type 0) (shape : Shape) → Shows p (λ shape. takes shape.form) → Denotes p shape → Within p.limit shape.traversed → IsReadable p takes
readable p takes shape accepted there within =
    let same : accepted.0 ≡ shape = one_denoted p accepted.0 shape accepted.1 there in
    (shape, there, (subst (λ (s : Shape). takes s.form) same accepted.2, within))

-- A call that decides by the form of an object, for a pointer.
module _ (p : Pointer) (takes : Form → Type 0) (form_error : Form → ErrorKind → Type 0) (decides : Decides takes form_error) where
  passed_within : (kind : ErrorKind) (shape : Shape) → PassesLimit p kind → Denotes p shape → Within p.limit shape.traversed → ⊥
  passed_within kind shape passes there within =
      let same : shape ≡ passes.0.0 = one_denoted p shape passes.0.0 there passes.0.1 in
      passes.0.2 (subst (λ (s : Shape). Within p.limit s.traversed) same within)

  pub apart : (kind : ErrorKind) → ReadError p form_error kind → IsReadable p takes → ⊥
  apart kind (inl (inl invalid)) taken = invalid_denotes_nothing p kind taken.0 invalid taken.1
  apart kind (inl (inr passes)) taken = passed_within kind taken.0 passes taken.1 taken.2.1
  apart kind (inr rejected) taken =
      let same : rejected.0 ≡ taken.0 = one_denoted p rejected.0 taken.0 rejected.1 taken.1 in
      decides.apart taken.0.form kind (subst (λ (s : Shape). form_error s.form kind) same rejected.2.1) taken.2.0

  pub one_kind : (kind other : ErrorKind) → ReadError p form_error kind → ReadError p form_error other → kind ≡ other
  one_kind kind other (inl (inl a)) (inl (inl b)) = one_invalid p kind other a b
  one_kind kind other (inl (inl a)) (inl (inr b)) = absurd (invalid_denotes_nothing p kind b.0.0 a b.0.1)
  one_kind kind other (inl (inl a)) (inr b) = absurd (invalid_denotes_nothing p kind b.0 a b.1)
  one_kind kind other (inl (inr a)) (inl (inl b)) = absurd (invalid_denotes_nothing p other a.0.0 b a.0.1)
  one_kind kind other (inl (inr a)) (inl (inr b)) = a.1 ∙ sym b.1
  one_kind kind other (inl (inr a)) (inr b) = absurd (passed_within kind b.0 a b.1 b.2.0)
  one_kind kind other (inr a) (inl (inl b)) = absurd (invalid_denotes_nothing p other a.0 b a.1)
  one_kind kind other (inr a) (inl (inr b)) = absurd (passed_within other a.0 b a.1 a.2.0)
  one_kind kind other (inr a) (inr b) =
      let same : a.0 ≡ b.0 = one_denoted p a.0 b.0 a.1 b.1 in
      decides.once b.0.form kind other (subst (λ (s : Shape). form_error s.form kind) same a.2.1) b.2.1

-- A call that follows a pointer, which is `q` among the segments.
module _ (old : LinsjoarReader) (bytes : List ℕ) (place : LinsjoarPlace) (shows : Pointer → Type 0) (takes : Form → Type 0)
    (form_error : Form → ErrorKind → Type 0) (blank : Type 0) where
  pub follows_none : (HasTableOf old bytes → ⊥) → blank → Follows old old bytes place shows takes form_error blank 27
  follows_none none is_blank = record {
    no_table = λ never. refl;
    found = λ zero. absurd (omega (arith, zero));
    counted = λ zero. absurd (omega (arith, zero));
    accepted = λ table taken. absurd (none table);
    errors = λ table kind error. absurd (none table);
    only_words = refl;
    stays = λ more. (refl, is_blank);
  }

  pub follows_object : (words_left : ℕ) (q : Pointer) → Decides takes form_error → q ≡ pointer_read old bytes place → HasTableOf old bytes → shows q
      → TakesOff q words_left → IsReadable q takes → Follows old (record old { words_left = words_left }) bytes place shows takes form_error blank 0
  follows_object words_left q decides same table shown left taken =
      let own = subst (λ p. IsReadable p takes) same taken in
      record {
        no_table = λ none. absurd (none table);
        found = λ zero. (table, subst shows same shown);
        counted = λ zero. subst (λ p. TakesOff p words_left) same left;
        accepted = λ there readable_there. refl;
        errors = λ there kind error. absurd (apart (pointer_read old bytes place) takes form_error decides kind error own);
        only_words = refl;
        stays = λ more. absurd (omega (arith, more));
      }

  pub follows_error : (kind : ErrorKind) (q : Pointer) → Decides takes form_error → q ≡ pointer_read old bytes place → HasTableOf old bytes
      → ReadError q form_error kind → blank → Follows old old bytes place shows takes form_error blank (kind_number kind)
  follows_error kind q decides same table fails is_blank =
      let own = subst (λ p. ReadError p form_error kind) same fails in
      let never : kind_number kind ≡ 0 → ⊥ = λ zero. omega (arith, zero, kind_positive kind) in
      record {
        no_table = λ none. absurd (none table);
        found = λ zero. absurd (never zero);
        counted = λ zero. absurd (never zero);
        accepted = λ there taken. absurd (apart (pointer_read old bytes place) takes form_error decides kind own taken);
        errors = λ there other error. ap kind_number (one_kind (pointer_read old bytes place) takes form_error decides kind other own error);
        only_words = refl;
        stays = λ more. (refl, is_blank);
      }
