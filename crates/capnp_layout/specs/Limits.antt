-- What is too large (src/limits.rt).
use Rattle.std.specs.Prelude.{ℕ, ◌-◌, ◌^◌, min, Bool, true, false}
use Rattle.capnp_frame.specs.declared.error.ErrorKind.{ErrorKind}
use Rattle.capnp_frame.specs.declared.error.ErrorKind.TheVariants.{AllocationTooLarge, CanonicalTooLarge}

-- the error for an object of this many words, untrimmed or in canonical form
abbrev pub too_large : Bool → ℕ → ErrorKind
too_large true words = CanonicalTooLarge
too_large false words = AllocationTooLarge (min words (2 ^ 32 - 1))
