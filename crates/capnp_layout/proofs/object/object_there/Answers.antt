-- Where there is a tree, no error is met.
use Rattle.capnp_layout.specs.Prelude.{message_of}
use Rattle.capnp_layout.proofs.pointers.ErrorExcludesTreeLemmas.{error_no_tree}
use Rattle.capnp_layout.proofs.object.object_there.Goals as goal

pub returns-in-Err : goal.returns-in-Err
returns-in-Err g c =
    absurd (error_no_tree (message_of (g.S.ReaderSegments.segments c.args.segments.now)) c.args.place c.args.nesting _ c.requires.tree.0 c.requires.tree.1 c.in-Err.ensures.errors c.requires.tree.2 c.requires.tree.3)
