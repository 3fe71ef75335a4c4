-- Where there is no memory for the line, nothing is written.
use Rattle.std.proofs.Common.{List, ℕ}
use Rattle.capnp_ls.specs.Stop.{IsDeviceErrorLine}
use Rattle.capnp_ls.proofs.LineListsSegmentLengthsLemmas.{no_line_left}
use Rattle.capnp_ls.proofs.stop.report_device_error.Goals as goal

pub returns-in_err-line-clause-left : goal.returns-in_err-line-clause-left
returns-in_err-line-clause-left g c =
    no_line_left (λ part. (line : List ℕ) × IsDeviceErrorLine c.args.name.now line × g.W.Write.leaves line part) c.from_residual.result (g.W.Write.written c.args.sink.now)
