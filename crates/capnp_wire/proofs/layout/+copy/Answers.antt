-- An object is copied, and then what its pointers point to, one after the other.
use Rattle.std.proofs.Common.{arith}
use Rattle.capnp_wire.proofs.layouts.TreeCopySequenceLemmas.{copying_first, copying_next, copying_ends}
use Rattle.capnp_wire.proofs.layouts.CopyBeginsWithOwnWordsLemmas.{copyable}
use Rattle.capnp_wire.proofs.walks.EmptyStructWalkAndCopyLemmas.{null_or_empty_copied}
use Rattle.capnp_wire.proofs.layout.+copy.Goals.{copy::copy_target-in-Some-local_struct+in-Pending, copy::copy_target-in_default-local_struct+in_default-local_list+in-Some-local_pointers}
use Rattle.capnp_wire.proofs.layout.+copy.Goals as goal

pub copy::copy_target-returns-in-Some-clause-copied : goal.copy::copy_target-returns-in-Some-clause-copied
copy::copy_target-returns-in-Some-clause-copied g t c = null_or_empty_copied c.args.source.now.canonical c.requires.content c.in-Some.ensures.0 c.in-Some.ensures.1

pub copy::copy_target-begin_struct-requires-clause-there : goal.copy::copy_target-begin_struct-requires-clause-there
copy::copy_target-begin_struct-requires-clause-there g t c = copyable c.requires.there (c.in-Some-local_struct.ensures _ c.requires.content).0

pub copy::copy_target-copy_list-requires-clause-there : goal.copy::copy_target-copy_list-requires-clause-there
copy::copy_target-copy_list-requires-clause-there g t c = (c.args.source.now.canonical, copyable c.requires.there (c.in-Some-local_list.ensures _ c.requires.content).0)

pub copy_pointers::copy_pointers-copy_by_cursor-requires : goal.copy_pointers::copy_pointers-copy_by_cursor-requires
copy_pointers::copy_pointers-copy_by_cursor-requires g t c κs within =
    (omega arith, (within.0, (within.1, (rw c.words.ensures (c.of-cursor.ensures.can _ _ _ _ _ _ c.requires.there c.requires.content (omega arith)), c.requires.small))))

pub copy_pointers::copy_by_cursor-copy_target-inner-requires : goal.copy_pointers::copy_by_cursor-copy_target-inner-requires
copy_pointers::copy_by_cursor-copy_target-inner-requires g t c κs within =
    let f = copying_first c.pointers.invariant c.take-slot.ensures in
    (omega arith, (within.0, (within.1, (f.there, (f.content, (f.following, omega (arith, c.pointers.invariant.long, c.requires.small)))))))

pub copy_pointers::copy_by_cursor-pointers-preserved : goal.copy_pointers::copy_by_cursor-pointers-preserved
copy_pointers::copy_by_cursor-pointers-preserved g t c =
    copying_next c.pointers.invariant c.take-slot.ensures c.copy_target-inner.ensures.copied c.copy_target-inner.ensures.len c.put_word.ensures.words c.put_word.ensures.len

pub copy_pointers::copy_by_cursor-returns-clause-copied : goal.copy_pointers::copy_by_cursor-returns-clause-copied
copy_pointers::copy_by_cursor-returns-clause-copied g t c = copying_ends c.pointers.invariant (c.is_empty.ensures.0 c.pointers-test.false)

pub copy_pointers::copy_run-copy_by_cursor-requires : goal.copy_pointers::copy_run-copy_by_cursor-requires
copy_pointers::copy_run-copy_by_cursor-requires g t c κs within =
    (omega arith, (within.0, (within.1, (c.run-cursor.ensures.can _ _ _ _ _ _ c.requires.there c.requires.content c.requires.before, c.requires.small))))

pub copy::copy_target-returns-in-Whole-clause-copied : goal.copy::copy_target-returns-in-Whole-clause-copied
copy::copy_target-returns-in-Whole-clause-copied g t c = c.in-Whole.ensures.begun _ _ _ c.requires.there (c.in-Some-local_struct.ensures _ c.requires.content).0

pub copy::copy_target-copy_run-free-requires : goal.copy::copy_target-copy_run-free-requires
copy::copy_target-copy_run-free-requires g t c κs within = elim c.match-local_struct.branch [
  | copy::copy_target-in-Some-local_struct+in-Pending w ↦
      let local = w.in-Some-local_struct.ensures _ c.requires.content in
      let b = w.in-Pending.ensures.begun _ _ _ c.requires.there local.0 in
      rw w.pending-is (rw w.block-is (omega (arith, local.1), (within.0, (within.1, (b.bound, (b.begins.there, (λ _. b.content, (b.before, omega (arith, w.begin_struct.ensures.len, c.requires.small)))))))))
  | copy::copy_target-in_default-local_struct+in_default-local_list+in-Some-local_pointers w ↦
      let local = w.in-Some-local_pointers.ensures _ c.requires.content in
      let b = w.begin_list.ensures _ _ _ c.args.source.now.canonical _ c.requires.there local.0 in
      rw w.pending-is (rw w.block-is (omega (arith, local.1), (within.0, (within.1, (b.bound, (b.begins.there, (λ _. b.content, (b.before, c.requires.small))))))))
]

pub copy::copy_target-returns-in-Some-local_list-clause-copied : goal.copy::copy_target-returns-in-Some-local_list-clause-copied
copy::copy_target-returns-in-Some-local_list-clause-copied g t c = c.copy_list.ensures.copied _ _ _ _ c.requires.there (c.in-Some-local_list.ensures _ c.requires.content).0

pub copy::copy_target-returns-clause-copied : goal.copy::copy_target-returns-clause-copied
copy::copy_target-returns-clause-copied g t c = elim c.match-local_struct.branch [
  | copy::copy_target-in-Some-local_struct+in-Pending w ↦
      rw w.pending-is ((w.in-Pending.ensures.begun _ _ _ c.requires.there (w.in-Some-local_struct.ensures _ c.requires.content).0).begins.ends _ _
      (rw w.pending-is at (rw w.block-is at c.copy_run-free.ensures.copied)))
  | copy::copy_target-in_default-local_struct+in_default-local_list+in-Some-local_pointers w ↦
      rw w.pending-is ((w.begin_list.ensures _ _ _ c.args.source.now.canonical _ c.requires.there (w.in-Some-local_pointers.ensures _ c.requires.content).0).begins.ends _ _
      (rw w.pending-is at (rw w.block-is at c.copy_run-free.ensures.copied)))
]
