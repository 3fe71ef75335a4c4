-- Both formats part streams in one way.
use Rattle.capnp.proofs.MessageSequenceReadBackLemmas.{appended_root_is_read}
use Rattle.capnp.proofs.laws.a_root_is_read_back.Goals as goal

pub returns : goal.returns
returns c = appended_root_is_read
