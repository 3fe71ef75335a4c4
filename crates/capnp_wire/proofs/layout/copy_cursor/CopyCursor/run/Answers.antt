-- A given number of pointers, and a given number of slots.
use Rattle.std.proofs.Common.{◌∙◌, ap, sym, length, arith}
use Rattle.capnp_wire.proofs.layouts.TreeCopySequenceLemmas.{paired}
use Rattle.capnp_layout.proofs.objects.SectionWordByIndexLemmas.{length-places}
use Rattle.capnp_wire.proofs.layout.copy_cursor.CopyCursor.run.Goals as goal

pub returns : goal.returns
returns c =
    let from = c.run-from.ensures in
    let to = c.run-to.ensures in
    paired from.places to.slots (sym (length-places c.args.first.segment c.args.first.word c.args.count) ∙ length-places 0 c.args.slot c.args.count ∙ sym (ap length to.places)) from.segment
    (omega (arith, to.end))
