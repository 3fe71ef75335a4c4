-- What is left of the line is left of a line that reports the stop.
use Rattle.capnp_ls.specs.Stop.{IsLineOf}
use Rattle.capnp_ls.proofs.LineListsSegmentLengthsLemmas.{line_left}
use Rattle.capnp_ls.proofs.stop.report.Goals as goal

pub returns-in_ok-line-in-Refused-clause-left : goal.returns-in_ok-line-in-Refused-clause-left
returns-in_ok-line-in-Refused-clause-left g c =
    let is : IsLineOf c.args.stop.now c.as_bytes-in-Refused.result.now = rw c.in-Refused.is (rw c.as_bytes-in-Refused.ensures.value c.in_ok-line-in-Refused.ensures) in
    line_left (IsLineOf c.args.stop.now) g.W.Write.leaves c.as_bytes-in-Refused.result.now c.write_all-in-Refused.result _ _ is c.write_all-in-Refused.ensures.left
