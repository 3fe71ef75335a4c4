-- The size counts the body and the pointer before it.
use Rattle.std.proofs.Common.{◌≡◌, ℕ, ◌+◌, Ok, ap}
use Rattle.capnp_wire.proofs.canonical.canonical_size.Goals as goal

pub returns-in_err-following-clause-found : goal.returns-in_err-following-clause-found
returns-in_err-following-clause-found g c following has = let never = c.in_err-following.ensures.found following has in absurd (cc)

pub returns-clause-found : goal.returns-clause-found
returns-clause-found g c following has =
    let is = c.in_ok-following.ensures.found following has in
    let same : c.in_ok-following.following ≡ following = cc in
    ap (λ (words : ℕ). Ok (words + 1)) same
