-- The word at a place of a message is the word of its segment's bytes, and none is there where these have none.
use Rattle.std.proofs.Common.{◌≡◌, ℕ, zero, suc, List, [], ◌∷◌, Some, None, slice_get, refl, ap}
use Rattle.capnp_layout.specs.Prelude.{words_of, message_of, word_at}
use Rattle.capnp_layout.specs.declared.place.Place.{Place}

pub segment_is_there : (segments : List (List ℕ)) (i : ℕ) (bytes : List ℕ) → slice_get segments i ≡ Some bytes → slice_get (message_of segments) i ≡ Some (words_of bytes)
segment_is_there [] i bytes e = cc
segment_is_there (x ∷ segments) zero bytes e = let same : x ≡ bytes = cc in ap (λ (l : List ℕ). Some (words_of l)) same
segment_is_there (x ∷ segments) (suc i) bytes e = segment_is_there segments i bytes e

pub no_segment_is_there : (segments : List (List ℕ)) (i : ℕ) → slice_get segments i ≡ None → slice_get (message_of segments) i ≡ None
no_segment_is_there [] i e = refl
no_segment_is_there (x ∷ segments) zero e = cc
no_segment_is_there (x ∷ segments) (suc i) e = no_segment_is_there segments i e

pub word_is_in_message : (segments : List (List ℕ)) (place : Place) (bytes : List ℕ) (word : ℕ) → slice_get segments place.segment ≡ Some bytes
    → slice_get (words_of bytes) place.word ≡ Some word → word_at (message_of segments) place ≡ Some word
word_is_in_message segments place bytes word e f = rw (segment_is_there segments place.segment bytes e) f

pub no_word_is_there : (segments : List (List ℕ)) (place : Place) (bytes : List ℕ) → slice_get segments place.segment ≡ Some bytes
    → slice_get (words_of bytes) place.word ≡ None → word_at (message_of segments) place ≡ None
no_word_is_there segments place bytes e f = rw (segment_is_there segments place.segment bytes e) f
