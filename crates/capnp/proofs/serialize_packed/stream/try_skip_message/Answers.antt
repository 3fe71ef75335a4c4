-- What the general form returns, by the rules that are made of the arguments.
use Rattle.capnp.proofs.serialize_packed.stream.try_skip_message.Goals as goal

pub returns : goal.returns
returns g c = rw c.new.ensures at c.try_skip_packed_segments.ensures
