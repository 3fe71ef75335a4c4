-- Its table is there, and the next line is the limit's.
use Rattle.capnp_frame.proofs.tables.ErrorAfterTableLemmas.{past_limit}
use Rattle.capnp_frame.proofs.laws.message_past_the_limit_fails.Goals as goal

pub returns : goal.returns
returns g c rule limit m raw rest = past_limit rule g.met.R.Read.lawful limit m raw rest
