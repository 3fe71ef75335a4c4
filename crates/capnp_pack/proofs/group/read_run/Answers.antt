-- The run is a request of a given number of bytes, after its count.
use Rattle.std.proofs.Common.{rules, arith}
use Rattle.std.proofs.lemmas.Grind.{common_steps}
use Rattle.capnp_pack.proofs.unpacking.UnpackerOutcomeFromSourceCallLemmas.{takes_passed, takes_err, takes_own, takes_ok}
use Rattle.capnp_frame.proofs.sources.JoinedCallsAdvanceSourceLemmas.{passed_on}
use Rattle.capnp_pack.proofs.errors.ConsumedAtCountOverrunLemmas.{cut_is_other, short_is_other, count_over}
use Rattle.capnp_pack.proofs.errors.LiteralRunErrorLemmas.{count_missing, count_large, run_short}
use Rattle.capnp_pack.proofs.group.read_run.Goals as goal

pub returns-in_err-further-clause-takes : goal.returns-in_err-further-clause-takes
returns-in_err-further-clause-takes g c =
    takes_passed g.R.Read _ _ _ _ _ _ c.from_residual.ensures.1 (count_missing _ _ _ _ c.in_err-further.ensures.errors) c.in_err-further.ensures.asked

pub returns-then-count-buffer-clause-takes : goal.returns-then-count-buffer-clause-takes
returns-then-count-buffer-clause-takes g c =
    takes_own g.R.Read _ _ _ _ _ _ c.from_kind.ensures (λ device. cc)
    (count_large _ c.in_ok-further.further _ _ (search rules) (search rules) c.in_ok-further.ensures.found) c.required_byte.ensures.asked.advances

pub returns-in_err-read_stored-clause-takes : goal.returns-in_err-read_stored-clause-takes
returns-in_err-read_stored-clause-takes g c =
    takes_err g.R.Read g.met.R.Read.keeps _ _ _ _ _ _ _ c.from_residual-in_err-read_stored.ensures.1
    (run_short _ _ c.in_ok-further.further _ _ _ _ (search rules) (search rules) (search rules) c.in_ok-further.ensures.found c.in_err-read_stored.ensures.errors)
    c.required_byte.ensures.asked.advances c.in_err-read_stored.ensures.asked

pub returns-clause-takes : goal.returns-clause-takes
returns-clause-takes g c =
    takes_ok g.R.Read g.met.R.Read.keeps _ _ _ _ _ _ (grind (arith, common_steps)) c.required_byte.ensures.asked.advances c.read_stored.ensures.asked.advances

pub returns-in_err-further-clause-overrun : goal.returns-in_err-further-clause-overrun
returns-in_err-further-clause-overrun g c = passed_on _ _ c.from_residual.ensures.1 (λ over. absurd (cut_is_other _ _ _ c.in_err-further.ensures.errors over))

pub returns-then-count-buffer-clause-overrun : goal.returns-then-count-buffer-clause-overrun
returns-then-count-buffer-clause-overrun g c = λ over. count_over _ c.in_ok-further.further _ _ (search rules) (search rules) c.in_ok-further.ensures.found

pub returns-in_err-read_stored-clause-overrun : goal.returns-in_err-read_stored-clause-overrun
returns-in_err-read_stored-clause-overrun g c =
    passed_on _ _ c.from_residual-in_err-read_stored.ensures.1 (λ over. absurd (short_is_other _ _ _ c.in_err-read_stored.ensures.errors over))
