-- Bytes that fail are cut, or begin no framed message.
use Rattle.std.proofs.Common.{inl, inr}
use Rattle.capnp_show.proofs.detected.look_at.Goals as goal

pub returns-else-front-lt-FRONT_BYTES : goal.returns-else-front-lt-FRONT_BYTES
returns-else-front-lt-FRONT_BYTES c =
    inr (record { kind = c.in-Err.error.kind; errors = c.in-Err.ensures.reads.errors; cut = c.in-EmptyBuffer.is }, c.if-front-lt-FRONT_BYTES.false)

pub returns-in_default : goal.returns-in_default
returns-in_default c = record {
  kind = c.in-Err.error.kind;
  errors = c.in-Err.ensures.reads.errors;
  whole = λ cut. elim cut [ inl empty ↦ c.in_default.not-EmptyBuffer empty | inr ends ↦ c.in_default.not-MessageEndsPrematurely ends.0 ends.1 ends.2 ];
}
