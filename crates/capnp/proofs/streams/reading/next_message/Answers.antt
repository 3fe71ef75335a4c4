-- Either format's message.
use Rattle.capnp.specs.Prelude.{by_format}
use Rattle.capnp.proofs.SourceEncodingLemmas.{reads_message}
use Rattle.capnp.proofs.RunOutputMessageByMessageLemmas.{format_read}
use Rattle.capnp.proofs.streams.reading.next_message.Goals as goal

pub returns : goal.returns
returns g c = rw c.reader_of.ensures (reads_message g.R.Read _ _ (by_format c.args.padding c.args.format) c.args.options _
    (format_read c.args.padding c.args.format) (rw c.new-rules.ensures at c.read_next.ensures))
