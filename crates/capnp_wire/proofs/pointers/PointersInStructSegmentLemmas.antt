-- The segment that a pointer is in: the one that is known with it, and for the pointers of a struct the struct's
-- own.
use Rattle.std.proofs.Common.{◌≡◌, ◌+◌, ◌<◌, ℕ, zero, suc, List, Some, slice_get, Bor, subst, arith}
use Rattle.std.specs.Option.{ForSome}
use Rattle.capnp_layout.specs.Prelude.{words_of, places}
use Rattle.capnp_layout.specs.declared.place.Place.{Place}
use Rattle.capnp_wire.specs.Prelude.{Pointer, HasSegment}

-- a known segment, in an option, is the pointer's segment
pub known_segment : (p : Pointer) (segment : Bor (List ℕ)) → HasSegment p (words_of segment.now) → ForSome (Some segment) (λ known. HasSegment p (words_of known.now))
known_segment p segment has = λ known is. let same : segment ≡ known = cc in subst (λ (s : Bor (List ℕ)). HasSegment p (words_of s.now)) same has

places_within : (m : List (List ℕ)) (words : List ℕ) (segment first n index : ℕ) → slice_get m segment ≡ Some words
    → (place : Place) → slice_get (places segment first n) index ≡ Some place → slice_get m place.segment ≡ Some words
places_within m words segment first zero index there place is = cc
places_within m words segment first (suc n) zero there place is =
    let same : record { segment = segment; word = first } ≡ place = cc in
    subst (λ (p : Place). slice_get m p.segment ≡ Some words) same there
places_within m words segment first (suc n) (suc index) there place is = places_within m words segment (first + 1) n index there place is

-- where a struct has pointers, they are in its segment
pub struct_pointers_within : (m : List (List ℕ)) (words : List ℕ) (segment first n index : ℕ) → (0 < n → slice_get m segment ≡ Some words)
    → (place : Place) → slice_get (places segment first n) index ≡ Some place → slice_get m place.segment ≡ Some words
struct_pointers_within m words segment first zero index holds place is = cc
struct_pointers_within m words segment first (suc n) index holds place is = places_within m words segment first (suc n) index (holds (omega arith)) place is
