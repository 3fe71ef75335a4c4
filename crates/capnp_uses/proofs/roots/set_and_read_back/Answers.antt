-- The tree that was set is where the message is read.
use Rattle.std.proofs.Common.{inl}
use Rattle.capnp_frame.proofs.sources.JoinedCallsAdvanceSourceLemmas.{passed_on}
use Rattle.capnp_uses.proofs.WriteAndReadLemmas.{has_segment, tree_again, unread, holds_at_ok}
use Rattle.capnp_uses.proofs.roots.set_and_read_back.Goals as goal

pub returns-in_err-set_root-clause-errors : goal.returns-in_err-set_root-clause-errors
returns-in_err-set_root-clause-errors g c = passed_on _ _ c.from_residual.ensures.1 (inl (record { cleared = c.in_err-set_root.ensures.nulled; errors = c.in_err-set_root.ensures.kind }))

pub write_and_read_back-requires : goal.write_and_read_back-requires
write_and_read_back-requires g c =
    let set = c.in_ok-set_root.ensures.set in c.get_segments_for_output.ensures.writable (has_segment _ _ _ set.is_at)

pub returns-clause-placed : goal.returns-clause-placed
returns-clause-placed g c = holds_at_ok c.write_and_read_back.result c.in_ok-set_root.ensures.placed

pub returns-clause-errors : goal.returns-clause-errors
returns-clause-errors g c =
    let sets = c.in_ok-set_root.ensures in
    unread g.A.Allocator (g.V.SetterInput.has_tree c.args.value) (g.V.SetterInput.fails c.args.value) _ _ _ c.write_and_read_back.result sets.set sets.placed
    (rw c.get_segments_for_output.ensures.segments at c.write_and_read_back.ensures.errors)

pub returns-clause-tree : goal.returns-clause-tree
returns-clause-tree g c =
    let set = c.in_ok-set_root.ensures.set in
    tree_again (g.V.SetterInput.has_tree c.args.value) (λ reader. reader.segments) c.write_and_read_back.result _ (set.trees, set.tree_is, (set.traversed, set.is_at))
    (rw c.get_segments_for_output.ensures.segments at c.write_and_read_back.ensures.back)
