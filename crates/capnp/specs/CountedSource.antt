-- What is seen of a source whose bytes are counted as they are taken (src/streams/counted.rt).
use Rattle.std.specs.Prelude.{◌≡◌, ℕ, ◌+◌, ◌<◌, ◌≤◌, ◌^◌, List, length, Option, Some, None, IfSome}
use Rattle.std.proofs.Common.{arith}
use Rattle.capnp_frame.specs.Prelude.{IfKnown}

-- Calls took all of the bytes `raw` but `rest`, and a count rose by as many: from `before` to `after`, if that is below 2^64.
pub record CountsTaken (before after : ℕ) (raw rest : List ℕ) : Type 0 where
  pub bytes : ℕ
  pub taken : length raw ≡ bytes + length rest
  pub counted : before + bytes < 2 ^ 64 → after ≡ before + bytes

-- A source shows no more bytes than are unread, as a slice and an `Input` do.
abbrev pub ShowsUnread : {S : Type 0} → (S → Option (List ℕ)) → (S → List ℕ) → Type 0
ShowsUnread unread shown = (source : _) → IfSome (unread source) (λ raw. length (shown source) ≤ length raw)

-- What each call of a counted source keeps, if the source is lawful: `old` is unread before the call, and `new` after it.
abbrev pub KeepsCount : Type 0 → (old new : Option (List ℕ)) → (before after : ℕ) → Type 0
KeepsCount lawful old new before after = lawful → IfKnown old new (CountsTaken before after)

-- no call takes nothing
pub counts_none : (lawful : Type 0) (unread : Option (List ℕ)) (count : ℕ) → KeepsCount lawful unread unread count count
counts_none lawful None count = λ holds. tt
counts_none lawful (Some raw) count = λ holds. record { bytes = 0; taken = omega arith; counted = λ few. omega arith }

-- and what two calls take is counted by both
pub counts_join : (lawful : Type 0) (a b c : Option (List ℕ)) (first second third : ℕ) → KeepsCount lawful a b first second
    → KeepsCount lawful b c second third → KeepsCount lawful a c first third
counts_join lawful None b c first second third p q = λ holds. tt
counts_join lawful (Some raw) None c first second third p q = λ holds. absurd (p holds)
counts_join lawful (Some raw) (Some mid) None first second third p q = λ holds. absurd (q holds)
counts_join lawful (Some raw) (Some mid) (Some rest) first second third p q = λ holds.
    let one = p holds in
    let two = q holds in
    record {
      bytes = one.bytes + two.bytes;
      taken = omega (arith, one.taken, two.taken);
      counted = λ few.
          let before : second ≡ first + one.bytes = one.counted (omega (arith, few)) in
          let after : third ≡ second + two.bytes = two.counted (omega (arith, few, before)) in
          omega (arith, before, after);
    }
