-- A message that was read has not too many segments for a writer.
use Rattle.std.proofs.Common.{None}
use Rattle.capnp.proofs.MessageWriteLemmas.{writer_error}
use Rattle.capnp.proofs.transcoding.WayMessageWriter.write_message.Goals as goal

pub returns-in-Pack-clause-errors : goal.returns-in-Pack-clause-errors
returns-in-Pack-clause-errors g c = rw c.in-Pack.is (writer_error ⊥ _ _ None _ c.requires.accepted c.write_message_segments.ensures.errors)

pub returns-in-Unpack-clause-errors : goal.returns-in-Unpack-clause-errors
returns-in-Unpack-clause-errors g c = rw c.in-Unpack.is (writer_error ⊥ _ _ None _ c.requires.accepted c.write_message_segments-in-Unpack.ensures.errors)

pub returns-in-Pack-clause-untouched : goal.returns-in-Pack-clause-untouched
returns-in-Pack-clause-untouched g c = rw c.in-Pack.is c.write_message_segments.ensures.untouched

pub returns-in-Unpack-clause-untouched : goal.returns-in-Unpack-clause-untouched
returns-in-Unpack-clause-untouched g c = rw c.in-Unpack.is c.write_message_segments-in-Unpack.ensures.untouched

pub returns-in-Pack-clause-left : goal.returns-in-Pack-clause-left
returns-in-Pack-clause-left g c = rw c.in-Pack.is c.write_message_segments.ensures.left

pub returns-in-Unpack-clause-left : goal.returns-in-Unpack-clause-left
returns-in-Unpack-clause-left g c = rw c.in-Unpack.is c.write_message_segments-in-Unpack.ensures.left
