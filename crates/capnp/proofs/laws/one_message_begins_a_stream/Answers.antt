-- Both formats part streams in one way.
use Rattle.capnp.proofs.RunOutputMessageByMessageLemmas.{format_parts}
use Rattle.capnp.proofs.laws.one_message_begins_a_stream.Goals as goal

pub returns : goal.returns
returns c = λ rule format limit message other raw rest left. (format_parts rule format limit).begins_once message other raw rest left
