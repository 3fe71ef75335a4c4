-- Its table is the only one that is there.
use Rattle.capnp_frame.proofs.sources.KeptMemorySufficesLemmas.{fits_kept}
use Rattle.capnp_frame.proofs.laws.smaller_messages_take_no_memory.Goals as goal

pub returns : goal.returns
returns g c rule limit kept m raw rest left = fits_kept rule g.met.R.Read.lawful limit kept m raw rest left
