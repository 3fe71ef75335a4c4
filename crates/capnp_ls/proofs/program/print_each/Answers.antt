-- A list, or another run.
use Rattle.capnp_ls.proofs.program.print_each.Goals as goal

pub returns-in-Transcoding : goal.returns-in-Transcoding
returns-in-Transcoding g c = rw c.in-Transcoding.is (rw c.new-rules.ensures at (rw c.input.ensures at c.write_each_message.ensures))

pub returns-in-Canonical : goal.returns-in-Canonical
returns-in-Canonical g c = rw c.in-Canonical.is (rw c.new-rules-in-Canonical.ensures at c.write_each_message-in-Canonical.ensures)
