-- The source's unread bytes are the device's, and the reader of the next message reads them.
use Rattle.capnp_uses.proofs.KnownBytesReadOutcomeLemmas.{reads_first, leaves_rest, failed_since, failed_next}
use Rattle.capnp_uses.proofs.devices.first_of_device.Goals as goal

pub returns-clause-first : goal.returns-clause-first
returns-clause-first g c = reads_first _ _ _ c.args.format c.args.options.traversal_limit_in_words _ _ c.in_ok-rest.ensures.bytes_are
    (c.next_message-read.ensures.encodings tt) c.next_message-read.ensures.reads

pub returns-clause-rest : goal.returns-clause-rest
returns-clause-rest g c = leaves_rest c.args.format c.args.options.traversal_limit_in_words (λ reader. reader.segments) c.next_message-read.result _ _ _
    c.in_ok-rest.ensures.bytes_are (c.next_message-read.ensures.encodings tt)

pub returns-clause-failed : goal.returns-clause-failed
returns-clause-failed g c = failed_since c.next_message-read.result 0 _ _ c.in_ok-rest.ensures.failures
    (failed_next (λ reader. reader.segments) c.next_message-read.result _ _ c.next_message-read.ensures.reads.failed)
