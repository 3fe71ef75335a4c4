-- The text that is read is the one that was set.
use Rattle.std.proofs.Common.{refl, sym, ◌∙◌}
use Rattle.capnp_uses.proofs.SetTextReadBackLemmas.{set_text_accepted, text_read, bytes_same}
use Rattle.capnp_uses.proofs.roots.set_text_is_read_back.Goals as goal

pub returns-in_err-view-clause-cleared : goal.returns-in_err-view-clause-cleared
returns-in_err-view-clause-cleared g c =
    let never = c.in_err-view.ensures.found refl (set_text_accepted _ _ c.in_ok-set_root.ensures.set) in
    absurd (cc)

pub returns-clause-back : goal.returns-clause-back
returns-clause-back g c =
    let same = text_read _ _ _ c.in_ok-set_root.ensures.set c.in_ok-view.ensures.returned in
    bytes_same _ _ _ c.eq.ensures (c.as_bytes.ensures ∙ same ∙ sym c.as_bytes-2.ensures.value)

pub returns-in_err-view-clause-errors : goal.returns-in_err-view-clause-errors
returns-in_err-view-clause-errors g c =
    let never = c.in_err-view.ensures.found refl (set_text_accepted _ _ c.in_ok-set_root.ensures.set) in
    absurd (cc)
