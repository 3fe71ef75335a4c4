-- The bytes are eight times the words.
use Rattle.capnp.proofs.MessageWriteLemmas.{encoding_size}
use Rattle.capnp.proofs.serialize.writing.compute_serialized_size_in_words.Goals as goal

pub returns-clause-bytes : goal.returns-clause-bytes
returns-clause-bytes g c = encoding_size c.serialized_size_in_words.result _ c.can_be_written.ensures c.serialized_size_in_words.ensures.size
