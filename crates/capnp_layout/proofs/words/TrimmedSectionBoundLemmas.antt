-- Sections of some words each need no more words than they have.
use Rattle.std.proofs.Common.{ℕ, zero, suc, ◌+◌, ◌≤◌, List, arith}
use Rattle.capnp_layout.specs.Prelude.{most_used}
use Rattle.capnp_layout.proofs.words.LengthWithoutTrailingZerosLemmas.{most_within}

pub most_within_parts : (words : List ℕ) (start k step n : ℕ) → most_used words start k step n ≤ k
most_within_parts words start k step zero = omega arith
most_within_parts words start k step (suc n) = omega (arith, most_within words start k, most_within_parts words (start + step) k step n)
