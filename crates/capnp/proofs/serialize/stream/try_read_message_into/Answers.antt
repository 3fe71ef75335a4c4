-- What is read by requests, by encodings.
use Rattle.std.proofs.Common.{length}
use Rattle.capnp.specs.Prelude.{framed}
use Rattle.capnp.proofs.SourceEncodingLemmas.{framed_read, reads_message_into}
use Rattle.capnp.proofs.serialize.stream.try_read_message_into.Goals as goal

pub returns : goal.returns
returns g c = rw c.reader_of.ensures (reads_message_into g.R.Read _ _ (framed c.args.padding g.R.Read) c.args.options (length c.args.buffer.now) _
    (framed_read c.args.padding g.R.Read g.met.R.Read.lawful) (rw c.new-rules.ensures at c.try_read_segments_into_with_rules.ensures))
