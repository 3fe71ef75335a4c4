-- A group is a part of the result of each request that it fits into.
use Rattle.std.proofs.Common.{rules, refl}
use Rattle.capnp_pack.proofs.unpacking.UnpackerOutcomeFromSourceCallLemmas.{next_err, next_ok}
use Rattle.capnp_frame.proofs.sources.JoinedCallsAdvanceSourceLemmas.{passed_on}
use Rattle.capnp_pack.proofs.errors.ConsumedAtCountOverrunLemmas.{device_is_other, first_over}
use Rattle.capnp_pack.proofs.unpacking.GroupIsRequestPartLemmas.{group_found}
use Rattle.capnp_pack.proofs.errors.GroupErrorLemmas.{group_error}
use Rattle.capnp_pack.proofs.group.read_group.Goals as goal

pub returns-in_err-count-in-0-clause-takes : goal.returns-in_err-count-in-0-clause-takes
returns-in_err-count-in-0-clause-takes g c =
    let tag = rw c.in-Some.is at c.in_ok-tag.ensures.found in
    next_err g.R.Read g.met.R.Read.keeps _ _ _ _ _ _ _ c.in-Some.tag tag c.from_residual-in_err-count-in-0.ensures.1
    (group_error _ _ 0 _ _ _ (rw c.in-0.is at tag) c.in_err-count-in-0.ensures.takes.errors)
    c.next_byte.ensures.asked.advances c.in_err-count-in-0.ensures.takes.asked

pub returns-in_err-count-in_default-tag-clause-takes : goal.returns-in_err-count-in_default-tag-clause-takes
returns-in_err-count-in_default-tag-clause-takes g c =
    let tag = rw c.in-Some.is at c.in_ok-tag.ensures.found in
    next_err g.R.Read g.met.R.Read.keeps _ _ _ _ _ _ _ c.in-Some.tag tag c.from_residual-in_err-count-in_default-tag.ensures.1
    (group_error _ _ c.in-Some.tag _ _ _ tag c.in_err-count-in_default-tag.ensures.takes.errors)
    c.next_byte.ensures.asked.advances c.in_err-count-in_default-tag.ensures.takes.asked

pub returns-in_ok-count-in-0-clause-takes : goal.returns-in_ok-count-in-0-clause-takes
returns-in_ok-count-in-0-clause-takes g c =
    let tag = rw c.in-Some.is at c.in_ok-tag.ensures.found in
    next_ok g.R.Read g.met.R.Read.keeps _ _ _ _ _ _
    (group_found c.in-Some.tag 0 c.in_ok-count-in-0.count c.read_zeros.new.buffer _ _ _ c.in-0.is c.in_ok-count-in-0.ensures.within tag c.in_ok-count-in-0.ensures.takes.found)
    c.next_byte.ensures.asked.advances c.read_zeros.ensures.takes.asked.advances

pub returns-in_ok-count-in_default-tag-clause-takes : goal.returns-in_ok-count-in_default-tag-clause-takes
returns-in_ok-count-in_default-tag-clause-takes g c =
    let tag = rw c.in-Some.is at c.in_ok-tag.ensures.found in
    next_ok g.R.Read g.met.R.Read.keeps _ _ _ _ _ _
    (group_found c.in-Some.tag c.in-Some.tag c.in_ok-count-in_default-tag.count c.read_words.new.buffer _ _ _ refl
    c.in_ok-count-in_default-tag.ensures.within tag c.in_ok-count-in_default-tag.ensures.takes.found)
    c.next_byte.ensures.asked.advances c.read_words.ensures.takes.asked.advances

pub returns-in_err-tag-clause-overrun : goal.returns-in_err-tag-clause-overrun
returns-in_err-tag-clause-overrun g c = passed_on _ _ c.from_residual.ensures.1 (λ over. absurd (device_is_other _ c.in_err-tag.ensures.errors over))

pub returns-in_err-count-in-0-clause-overrun : goal.returns-in_err-count-in-0-clause-overrun
returns-in_err-count-in-0-clause-overrun g c =
    let tag = rw c.in-Some.is at c.in_ok-tag.ensures.found in
    passed_on _ _ c.from_residual-in_err-count-in-0.ensures.1
    (λ over. first_over _ 0 _ _ _ (search rules) (rw c.in-0.is at tag) (c.in_err-count-in-0.ensures.overrun over))

pub returns-in_err-count-in_default-tag-clause-overrun : goal.returns-in_err-count-in_default-tag-clause-overrun
returns-in_err-count-in_default-tag-clause-overrun g c =
    let tag = rw c.in-Some.is at c.in_ok-tag.ensures.found in
    passed_on _ _ c.from_residual-in_err-count-in_default-tag.ensures.1
    (λ over. first_over _ c.in-Some.tag _ _ _ (search rules) tag (c.in_err-count-in_default-tag.ensures.overrun over))
