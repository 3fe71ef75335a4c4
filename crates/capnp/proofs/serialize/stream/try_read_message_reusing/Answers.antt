-- What is read by requests, by encodings.
use Rattle.capnp.specs.Prelude.{framed_reusing}
use Rattle.capnp.proofs.SourceEncodingLemmas.{framed_read, reads_message}
use Rattle.capnp.proofs.serialize.stream.try_read_message_reusing.Goals as goal

pub returns : goal.returns
returns g c = rw c.reader_of.ensures (reads_message g.R.Read _ _ (framed_reusing c.args.padding g.R.Read c.args.spare) c.args.options _
    (framed_read c.args.padding g.R.Read g.met.R.Read.lawful) (rw c.new-rules.ensures at c.try_read_segments_reusing.ensures))
