-- Where the object finds no room, none was there once the root was cleared.
use Rattle.capnp_build.proofs.outcomes.BlockPrefersFirstSegmentLemmas.{found_no_room}
use Rattle.capnp_build.proofs.view.init.Goals as goal

pub returns-clause-no_room : goal.returns-clause-no_room
returns-clause-no_room g c = found_no_room _ _ _ _ _ _ c.init_object.result c.init_object.ensures.nulled c.init_object.ensures.kind
