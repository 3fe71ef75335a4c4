-- Where there is a tree, the walk does not stop.
use Rattle.capnp_message.proofs.CanonicalFormOrErrorLemmas.{tree_found}
use Rattle.capnp_message.proofs.reader.Reader.is_canonical.Goals as goal

pub returns-clause-found : goal.returns-clause-found
returns-clause-found g c trees points_to = tree_found _ _ c.is_canonical.result c.is_canonical.ensures.walk_error trees (rw (← c.self.view_is) at points_to)
