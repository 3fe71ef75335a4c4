-- The source's unread bytes are the device's, and all its messages are read.
use Rattle.std.proofs.Common.{map}
use Rattle.capnp_uses.proofs.KnownBytesReadOutcomeLemmas.{all_of_bytes, failed_since}
use Rattle.capnp_uses.proofs.devices.all_of_device.Goals as goal

pub returns-clause-all : goal.returns-clause-all
returns-clause-all g c = all_of_bytes c.args.format c.args.options.traversal_limit_in_words (λ readers. map (λ reader. reader.segments) readers.items)
    c.all_of_source-read.result _ _ c.in_ok-source.ensures.bytes_are c.all_of_source-read.ensures.all

pub returns-clause-failed : goal.returns-clause-failed
returns-clause-failed g c = failed_since c.all_of_source-read.result 0 _ _ c.in_ok-source.ensures.failures c.all_of_source-read.ensures.failed
