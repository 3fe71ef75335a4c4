-- The count after the tag is the length of the run.
use Rattle.std.proofs.Common.{rules, arith, ◌+◌, ◌*◌, refl}
use Rattle.std.proofs.lemmas.Grind.{common_steps}
use Rattle.capnp_pack.proofs.unpacking.UnpackerOutcomeFromSourceCallLemmas.{takes_own}
use Rattle.capnp_frame.proofs.sources.JoinedCallsAdvanceSourceLemmas.{passed_on}
use Rattle.capnp_pack.proofs.errors.ConsumedAtCountOverrunLemmas.{device_is_other, zeros_over}
use Rattle.capnp_pack.proofs.errors.GroupErrorLemmas.{group_run_error, count_error}
use Rattle.capnp_pack.proofs.unpacking.GroupIsRequestPartLemmas.{zeros_found}
use Rattle.capnp_pack.proofs.group.read_zeros.Goals as goal

pub returns-then-count-buffer-clause-takes : goal.returns-then-count-buffer-clause-takes
returns-then-count-buffer-clause-takes g c =
    let found = rw c.in-Some.is at c.in_ok-further.ensures.found in
    takes_own g.R.Read _ _ _ _ _ _ c.from_kind-then-count-buffer.ensures (λ device. cc)
    (group_run_error _ c.in-Some.further _ _ (search rules) (search rules) (search rules) found) c.next_byte.ensures.asked.advances

pub returns-clause-takes : goal.returns-clause-takes
returns-clause-takes g c =
    let found = rw c.in-Some.is at c.in_ok-further.ensures.found in
    record {
      found = zeros_found c.in-Some.further (8 * (c.in-Some.further + 1)) _ _ _ (search rules) refl (grind (arith, common_steps)) found;
      errors = tt;
      asked = record { failed = tt; advances = c.next_byte.ensures.asked.advances };
    }

pub returns-in_default-clause-takes : goal.returns-in_default-clause-takes
returns-in_default-clause-takes g c =
    let none = rw c.in_default.is at c.in_ok-further.ensures.none in
    takes_own g.R.Read _ _ _ _ _ _ c.from_kind.ensures (λ device. cc) (count_error _ _ (search rules) none) c.next_byte.ensures.asked.advances

pub returns-in_err-further-clause-overrun : goal.returns-in_err-further-clause-overrun
returns-in_err-further-clause-overrun g c = passed_on _ _ c.from_residual.ensures.1 (λ over. absurd (device_is_other _ c.in_err-further.ensures.errors over))

pub returns-then-count-buffer-clause-overrun : goal.returns-then-count-buffer-clause-overrun
returns-then-count-buffer-clause-overrun g c =
    let found = rw c.in-Some.is at c.in_ok-further.ensures.found in
    λ over. zeros_over _ c.in-Some.further _ _ (search rules) (search rules) found
