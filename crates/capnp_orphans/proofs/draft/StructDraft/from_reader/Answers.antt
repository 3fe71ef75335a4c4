-- The pointers are the pointers of the draft.
use Rattle.std.proofs.Common.{ℕ}
use Rattle.std.proofs.lemmas.List.{length-replicate}
use Rattle.capnp_orphans.proofs.PointersCopiedUntilErrorLemmas.{copies_of, copies_not, as_many_pointers, same_failure}
use Rattle.capnp_orphans.proofs.draft.StructDraft.from_reader.Goals as goal

pub returns-in_err-copy_pointers-clause-copies : goal.returns-in_err-copy_pointers-clause-copies
returns-in_err-copy_pointers-clause-copies g c =
    as_many_pointers _ _ g.row.P _ _ _ c.from_residual.result (length-replicate {A = ℕ} g.row.P 0)
    (copies_not _ _ _ _ _ _ c.in_err-copy_pointers.field-0.0 c.from_residual.result (same_failure _ _ c.from_residual.ensures.1) c.in_err-copy_pointers.ensures)

pub returns-clause-copies : goal.returns-clause-copies
returns-clause-copies g c =
    as_many_pointers _ _ g.row.P _ _ _ _ (length-replicate {A = ℕ} g.row.P 0)
    (copies_of _ _ _ _ c.copy_pointers.new.pointers _ c.in_ok-copy_pointers.field-0 c.of_words.result c.of_words.ensures.pointers c.in_ok-copy_pointers.ensures)
