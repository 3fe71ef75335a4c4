-- The message that is found is the one that is there.
use Rattle.capnp.specs.declared.streams.Format.TheVariants.{Framed}
use Rattle.capnp_frame.specs.Prelude.{default_limit}
use Rattle.capnp_uses.proofs.SliceReadAndCanonicalizeOutcomeLemmas.{slices_are_plain, nothing_or_memory, succeeds_at_none, next_error}
use Rattle.capnp_uses.proofs.reading.first_message.Goals as goal

pub returns-clause-exact : goal.returns-clause-exact
returns-clause-exact c = nothing_or_memory (λ reader. reader.segments) Framed default_limit c.args.bytes.now _ c.try_read_message.result
    (c.try_read_message.ensures.encodings slices_are_plain) c.try_read_message.ensures.reads.none c.try_read_message.ensures.reads.failed

pub returns-clause-errors : goal.returns-clause-errors
returns-clause-errors c = next_error (λ reader. reader.segments) Framed default_limit c.args.bytes.now _ c.try_read_message.result
    c.try_read_message.ensures.reads.failed c.try_read_message.ensures.reads.errors

pub returns-clause-empty : goal.returns-clause-empty
returns-clause-empty c = succeeds_at_none (λ reader. reader.segments) c.args.bytes.now c.try_read_message.result
    c.try_read_message.ensures.reads.end c.try_read_message.ensures.reads.failed
