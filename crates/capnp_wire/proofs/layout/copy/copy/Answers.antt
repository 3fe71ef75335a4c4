-- The pointer is in a segment, since a tree is at its place.
use Rattle.std.proofs.Common.{sym}
use Rattle.capnp_layout.specs.Prelude.{no_word, no_segment}
use Rattle.capnp_layout.proofs.words.WordAtPlaceLemmas.{segment_is_there, no_segment_is_there}
use Rattle.capnp_layout.proofs.pointers.ErrorExcludesTreeLemmas.{error_no_tree}
use Rattle.capnp_wire.proofs.layout.copy.copy.Goals as goal

pub copy_target-requires-clause-content : goal.copy_target-requires-clause-content
copy_target-requires-clause-content g c = segment_is_there _ c.args.place.segment _ (sym c.in-Some.ensures)

pub returns-in-None-clause-copied : goal.returns-in-None-clause-copied
returns-in-None-clause-copied g c =
    let can = c.requires.there in
    absurd (error_no_tree _ c.args.place c.args.nesting _ can.trees can.traversed (no_word (no_segment (no_segment_is_there _ c.args.place.segment (sym c.in-None.ensures)))) can.are_at can.shallow)
