-- What is read by requests, by encodings.
use Rattle.capnp.specs.Prelude.{packed_reusing}
use Rattle.capnp.proofs.SourceEncodingLemmas.{packed_read, reads_message}
use Rattle.capnp.proofs.serialize_packed.stream.try_read_message_reusing.Goals as goal

pub returns : goal.returns
returns g c = rw c.reader_of.ensures (reads_message g.R.Read _ _ (packed_reusing c.args.padding c.args.spare) c.args.options _
    (packed_read c.args.padding) (rw c.new-rules.ensures at c.try_read_packed_segments.ensures))
