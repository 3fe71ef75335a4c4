-- The pointers that a copy keeps, and their slots.
use Rattle.std.proofs.Common.{◌∙◌, ap, sym, length, arith}
use Rattle.capnp_layout.specs.declared.pointer_slots.SectionSizes.{SectionSizes}
use Rattle.capnp_wire.proofs.layouts.TreeCopySequenceLemmas.{paired}
use Rattle.capnp_wire.proofs.layouts.CopyBeginsWithOwnWordsLemmas.{fewer_pointers, as_many}
use Rattle.capnp_wire.proofs.layout.copy_cursor.CopyCursor.of.Goals as goal

pub of-from-requires-clause-kept : goal.of-from-requires-clause-kept
of-from-requires-clause-kept c = rw c.section_sizes-kept.ensures (fewer_pointers _ _ c.requires.narrower).0

pub of-to-requires-clause-kept : goal.of-to-requires-clause-kept
of-to-requires-clause-kept c = rw c.section_sizes-kept.ensures (omega arith)

pub returns : goal.returns
returns c =
    let from_are = rw c.section_sizes-kept.ensures at c.of-from.ensures.places in
    let to_are = rw c.section_sizes-kept.ensures at c.of-to.ensures.places in
    paired from_are (c.of-to.ensures.slots (ap (λ (r : SectionSizes). r.pointers) c.section_sizes-kept.ensures))
    (as_many c.args.object.now.start _ c.args.object.now.body c.args.copied _ c.requires.narrower ∙ sym (ap length to_are)) c.of-from.ensures.segment c.of-to.ensures.end
