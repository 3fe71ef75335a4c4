-- The bytes are one part.
use Rattle.std.proofs.Common.{rules}
use Rattle.capnp_pack.proofs.packing.PackerOutcomeFromSinkCallLemmas.{hands_chunk}
use Rattle.capnp_pack.proofs.buffer.flush.Goals as goal

pub returns-clause-hands : goal.returns-clause-hands
returns-clause-hands g c =
    let reported = c.write_all.ensures in
    hands_chunk g.W.Write _ _ _ _ c.write_all.result (search rules) reported.added reported.left reported.errors reported.failed reported.grows
