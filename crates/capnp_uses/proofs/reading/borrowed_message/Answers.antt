-- The message that is found is the one that is there.
use Rattle.capnp.specs.declared.streams.Format.TheVariants.{Framed}
use Rattle.capnp_frame.specs.Prelude.{default_limit}
use Rattle.capnp_uses.proofs.SliceReadAndCanonicalizeOutcomeLemmas.{exactly_provided}
use Rattle.capnp_uses.proofs.reading.borrowed_message.Goals as goal

pub returns-clause-exact : goal.returns-clause-exact
returns-clause-exact c = exactly_provided (λ reader. reader.segments.segments) Framed default_limit c.args.bytes.now _
    c.read_message_from_flat_slice_no_alloc.result c.read_message_from_flat_slice_no_alloc.ensures.reads.found
    c.read_message_from_flat_slice_no_alloc.ensures.reads.accepted
