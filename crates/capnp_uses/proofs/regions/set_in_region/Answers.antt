-- The region is granted as the first segment, and has room.
use Rattle.std.proofs.Common.{inl, inr, ◌/◌, ◌≤◌, [], length, refl, ap, sym, subst, ◌∙◌, arith}
use Rattle.std.proofs.lemmas.Bool.{cases_lt}
use Rattle.std.proofs.lemmas.Result.{err_from_is_err_and}
use Rattle.capnp_message.specs.Region.{GrantsRegion, RegionError, IsOutAlone}
use Rattle.capnp_message.specs.declared.single_segment.SingleSegmentAllocator.{SingleSegmentAllocator}
use Rattle.capnp_uses.proofs.AllocationTooLargeRegionErrorLemmas.{available_alone, root_word_error, further_error}
use Rattle.capnp_uses.proofs.regions.set_in_region.Goals as goal

pub returns-in_err-set_root-clause-fits : goal.returns-in_err-set_root-clause-fits
returns-in_err-set_root-clause-fits g c = λ words has less.
    let granted = subst (λ (a : SingleSegmentAllocator). GrantsRegion a.region a.size 1 (c.new.result.size / 8)) (sym c.new-message.ensures.allocator)
    (c.new.ensures.available, omega (arith, less, c.new.ensures.size), refl) in
    let ok = c.in_err-set_root.ensures.fits words has (inr (c.new-message.ensures.spaces, (c.new.result.size / 8, granted, omega (arith, less, c.new.ensures.size)))) in
    absurd (cc)

pub returns-in_err-set_root-clause-available : goal.returns-in_err-set_root-clause-available
returns-in_err-set_root-clause-available g c =
    let p = err_from_is_err_and c.from_residual.result c.from_residual.ensures.1 in
    let alone = subst (λ (a : SingleSegmentAllocator). IsOutAlone a.region a.size []) (sym c.new-message.ensures.allocator)
    (available_alone c.new.result.region c.new.result.size c.new.ensures.available) in
    rw (p.1, p.2) (c.in_err-set_root.ensures.available c.new-message.ensures.spaces alone)

pub returns-in_err-set_root-clause-errors : goal.returns-in_err-set_root-clause-errors
returns-in_err-set_root-clause-errors g c =
    let p = err_from_is_err_and c.from_residual.result c.from_residual.ensures.1 in
    let reported = c.in_err-set_root.ensures in
    let own = c.new-message.ensures.allocator in
    let kind = c.in_err-set_root.field-0.0.kind in
    rw (p.1, p.2) (elim reported.kind [
      | inl room_error ↦ inl room_error
      | inr (inl first) ↦ inr (inl (root_word_error c.new.result.region c.new.result.size (length c.args.region.now) kind c.new.ensures.available c.new.ensures.size
          (subst (λ (a : SingleSegmentAllocator). RegionError a.region a.size 1 kind) own first.1.1.0)))
      | inr (inr no_room) ↦ (
          let words = no_room.words in
          let full : length c.args.region.now / 8 ≤ words = elim (cases_lt words (length c.args.region.now / 8)) [
            | inl less ↦ (
                let granted = subst (λ (a : SingleSegmentAllocator). GrantsRegion a.region a.size 1 (c.new.result.size / 8)) (sym own)
                (c.new.ensures.available, omega (arith, less, c.new.ensures.size), refl) in
                let ok = reported.fits words no_room.words_are (inr (c.new-message.ensures.spaces, (c.new.result.size / 8, granted, omega (arith, less, c.new.ensures.size)))) in
                absurd (cc))
            | inr past ↦ past
          ] in
          inr (inr (
            words,
            no_room.words_are,
            full,
            elim no_room.segment_error [
              | inl many ↦ inl many.1
              | inr (few, inl memory) ↦ inr memory.1
              | inr (few, inr errors) ↦ inl (further_error no_room.asked.region no_room.asked.size (length c.args.region.now) words kind
                  (no_room.same ∙ ap (λ (a : SingleSegmentAllocator). a.size) own ∙ c.new.ensures.size) full errors.0)
            ],
          )))
    ])

pub returns-clause-only_block : goal.returns-clause-only_block
returns-clause-only_block g c =
    let placed = c.in_ok-set_root.ensures.placed in (
      placed.words,
      placed.words_are,
      λ less.
          let granted = subst (λ (a : SingleSegmentAllocator). GrantsRegion a.region a.size 1 (c.new.result.size / 8)) (sym c.new-message.ensures.allocator)
          (c.new.ensures.available, omega (arith, less, c.new.ensures.size), refl) in
          let size = placed.granted c.new-message.ensures.spaces (c.new.result.size / 8) granted in
          (placed.first c.new-message.ensures.spaces).local (omega (arith, size, less, c.new.ensures.size, placed.words_are.few)),
    )
