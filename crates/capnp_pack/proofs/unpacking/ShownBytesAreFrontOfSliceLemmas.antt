-- What a source shows of a slice is a front of it, and it shows nothing only of an empty one.
use Rattle.std.proofs.Common.{◌≡◌, ℕ, zero, suc, ◌<◌, List, [], ◌∷◌, length, take, drop, refl, sym, arith}
use Rattle.std.specs.Prelude.{min}
use Rattle.std.proofs.lemmas.List.{take-append-drop}
use Rattle.capnp_frame.specs.Prelude.{IsFront}

pub front_taken : (n : ℕ) (bytes : List ℕ) → IsFront (take n bytes) bytes
front_taken n bytes = (drop n bytes, sym (take-append-drop n bytes))

pub none_shown : (n most : ℕ) (bytes : List ℕ) → n ≡ min (length bytes) most → 0 < most → take n bytes ≡ [] → bytes ≡ []
none_shown n most [] count some none = refl
none_shown zero most (byte ∷ bytes) count some none = absurd (omega arith)
none_shown (suc n) most (byte ∷ bytes) count some none = cc
