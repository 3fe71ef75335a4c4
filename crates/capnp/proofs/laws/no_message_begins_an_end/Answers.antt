-- Both formats part streams in one way.
use Rattle.capnp.proofs.RunOutputMessageByMessageLemmas.{format_parts}
use Rattle.capnp.proofs.laws.no_message_begins_an_end.Goals as goal

pub returns : goal.returns
returns c = λ rule format limit ending message raw rest. (format_parts rule format limit).ends_apart ending message raw rest
