-- The object is the one of the list pointer in the landing pad.
use Rattle.std.proofs.Common.{◌≡◌, ℕ, Some, sym, ap, ◌∙◌, subst, arith}
use Rattle.capnp_layout.specs.Prelude.{IsObject, word_at}
use Rattle.capnp_layout.specs.declared.place.Place.{Place}
use Rattle.capnp_c.proofs.in_place.ObjectAfterLandingPadLemmas.{object_after, after_segment}
use Rattle.capnp_c.proofs.reading.fast_path.bytes_after.Goals as goal

pub returns : goal.returns
returns c = λ m place far content far_there narrow landing_is.
    let near = c.in_ok-list.list in
    let tag = c.in_ok-tag.tag in
    let tag_there = subst (λ (p : Place). word_at m p ≡ Some tag) landing_is (rw content (sym c.in_ok-tag.ensures.value)) in
    let found = c.in_ok-list.ensures m content in
    let there = subst (λ (p : Place). IsObject m p near) landing_is found.0 in (
      object_after m place far tag far_there narrow tag_there (omega (arith, c.if-tag-ne1.false)) near _ there
          (ap (λ (t : ℕ). record near { traversed = t }) c.in_ok-checked_add.ensures.1),
      found.1,
      after_segment m place far tag far_there narrow tag_there (omega (arith, c.if-tag-ne1.false)) near there ∙ ap (λ (p : Place). p.segment) (sym landing_is),
    )
