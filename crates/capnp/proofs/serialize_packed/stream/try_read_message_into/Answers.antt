-- What is read by requests, by encodings.
use Rattle.std.proofs.Common.{length}
use Rattle.capnp.specs.Prelude.{packed}
use Rattle.capnp.proofs.SourceEncodingLemmas.{packed_read, reads_message_into}
use Rattle.capnp.proofs.serialize_packed.stream.try_read_message_into.Goals as goal

pub returns : goal.returns
returns g c = rw c.reader_of.ensures (reads_message_into g.R.Read _ _ (packed c.args.padding) c.args.options (length c.args.buffer.now) _
    (packed_read c.args.padding) (rw c.new-rules.ensures at c.try_read_packed_segments_into.ensures))
