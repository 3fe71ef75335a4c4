-- The pointers that the copies keep of each element, and their slots.
use Rattle.std.proofs.Common.{◌∙◌, ap, sym, refl, length}
use Rattle.capnp_wire.proofs.layouts.TreeCopySequenceLemmas.{paired}
use Rattle.capnp_wire.proofs.layouts.CopyBeginsWithOwnWordsLemmas.{kept_many}
use Rattle.capnp_wire.proofs.layout.copy_cursor.CopyCursor.elements.Goals as goal

pub returns : goal.returns
returns c =
    let size = c.args.size in
    let kept = c.args.kept in
    let from_are = rw (c.section_sizes-sizes.ensures, c.section_sizes.ensures) at c.new-from.ensures.places in
    let to_are = rw c.section_sizes-sizes.ensures at c.new-to.ensures.places in
    let slots_are = rw c.section_sizes-sizes.ensures at c.new-to.ensures.slots refl in
    let ends = rw c.section_sizes-sizes.ensures at c.new-to.ensures.end in
    paired from_are slots_are
    (kept_many c.args.first.segment c.args.first.word size.data_words size.pointers kept.size.pointers kept.count
    ∙ sym (ap length to_are ∙ kept_many 0 c.args.slots kept.size.data_words kept.size.pointers kept.size.pointers kept.count)) c.new-from.ensures.segment ends
