-- An available region fails only since a segment is larger than it, so with the kind that says so. Nothing is out
-- of it.
use Rattle.std.proofs.Common.{◌≡◌, inl, inr, ℕ, ◌+◌, ◌/◌, ◌≤◌, [], Option, Some, None, refl, arith}
use Rattle.std.specs.Prelude.{IsSome}
use Rattle.capnp_frame.specs.declared.error.ErrorKind.{ErrorKind}
use Rattle.capnp_frame.specs.declared.error.ErrorKind.TheVariants.{AllocationTooLarge}
use Rattle.capnp_message.specs.Region.{IsOutAlone, RegionError}

pub available_alone : {X : Type 0} (region : Option X) (size : ℕ) → IsSome region → IsOutAlone region size []
available_alone None size available = absurd (cc)
available_alone (Some x) size available = refl

-- a request of the root's word from an available region fails where there is no room for it
pub root_word_error : {X : Type 0} (region : Option X) (size n : ℕ) (kind : ErrorKind) → IsSome region → size ≡ n → RegionError region size 1 kind
    → (n / 8 ≡ 0) × (kind ≡ AllocationTooLarge 1)
root_word_error region size n kind available same (inl small) = (omega (arith, small.0, same), small.1)
root_word_error None size n kind available same (inr away) = absurd (cc)
root_word_error (Some x) size n kind available same (inr away) = let none : Some x ≡ None = away.1 in absurd (cc)

-- and so does the request of a further segment, which would be larger
pub further_error : {X : Type 0} (region : Option X) (size n words : ℕ) (kind : ErrorKind) → size ≡ n → n / 8 ≤ words → RegionError region size (words + 1) kind
    → kind ≡ AllocationTooLarge (words + 1)
further_error region size n words kind same full (inl small) = small.1
further_error region size n words kind same full (inr away) = absurd (omega (arith, away.0, same, full))
