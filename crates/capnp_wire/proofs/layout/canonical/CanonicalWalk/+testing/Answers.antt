-- A walk tests an object, and then what its pointers point to.
use Rattle.std.proofs.Common.{◌≤◌, ◌-◌, ◌∙◌, length, arith}
use Rattle.capnp_layout.specs.Prelude.{words_of, places_in}
use Rattle.capnp_layout.proofs.words.WordsOfBytesLemmas.{length-words_of}
use Rattle.capnp_layout.proofs.objects.ByteListElementLemmas.{all_words_below}
use Rattle.capnp_frame.proofs.sources.JoinedCallsAdvanceSourceLemmas.{passed_on}
use Rattle.capnp_wire.proofs.walks.CanonicalTestProgressLemmas.{null_passes, passing_begins, going_next, going_ends, passing_done, met_passes, pointers_pass, pointers_end, pointers_error}
use Rattle.capnp_wire.proofs.layout.canonical.CanonicalWalk.+testing.Goals as goal

pub test-returns-in_err-visit-clause-errors : goal.test-returns-in_err-visit-clause-errors
test-returns-in_err-visit-clause-errors g t c = passed_on _ _ c.from_residual.ensures.1 c.in_err-visit.ensures.errors

pub test-returns-in-Null-clause-passed : goal.test-returns-in-Null-clause-passed
test-returns-in-Null-clause-passed g t c same =
    null_passes (rw c.in-Null.is at c.in_ok-visit.ensures.found) (omega (arith, c.requires.within, length-words_of c.args.segment.now))

pub test-test_pointers-requires : goal.test-test_pointers-requires
test-test_pointers-requires g t c κs lives =
    let met = rw c.in-Pointers.is at c.in_ok-visit.ensures.found in
    (omega (arith, met.meets.deep, c.decreases), (lives, (c.requires.one, (met.first, (met.before, omega (arith, met.room, length-words_of c.args.segment.now))))))

pub test-returns-then-is_empty-clause-passed : goal.test-returns-then-is_empty-clause-passed
test-returns-then-is_empty-clause-passed g t c same =
    let met = rw c.in-Pointers.is at c.in_ok-visit.ensures.found in
    met_passes {left_after = c.visit.new.self.walk.left} {after = c.visit.new.self.next} (all_words_below c.args.segment.now (λ i. omega (arith, c.type_inv.segment i))) c.requires.before
    (omega (arith, c.requires.within, length-words_of c.args.segment.now)) met
    (passing_done (c.is_empty.ensures.0 c.if-is_empty.true)
    (passing_begins (words_of c.args.segment.now) (places_in c.in-Pointers.pointers) (c.args.nesting - 1) c.visit.new.self.walk.left c.visit.new.self.next met.room))

pub test-returns-else-is_empty-clause-passed : goal.test-returns-else-is_empty-clause-passed
test-returns-else-is_empty-clause-passed g t c =
    pointers_pass c.test_pointers.new.self.walk.left c.test_pointers.new.self.next c.test_pointers.result (all_words_below c.args.segment.now (λ i. omega (arith, c.type_inv.segment i)))
    c.requires.before (omega (arith, c.requires.within, length-words_of c.args.segment.now)) (rw c.in-Pointers.is at c.in_ok-visit.ensures.found) c.test_pointers.ensures.passed

pub test-returns-else-is_empty-clause-ended : goal.test-returns-else-is_empty-clause-ended
test-returns-else-is_empty-clause-ended g t c =
    pointers_end c.test_pointers.result (rw c.in-Pointers.is at c.in_ok-visit.ensures.found) c.test_pointers.ensures.ended

pub test-returns-else-is_empty-clause-errors : goal.test-returns-else-is_empty-clause-errors
test-returns-else-is_empty-clause-errors g t c =
    pointers_error c.test_pointers.result (rw c.in-Pointers.is at c.in_ok-visit.ensures.found) c.test_pointers.ensures.errors

pub test_pointers-pointers-init : goal.test_pointers-pointers-init
test_pointers-pointers-init g t c =
    let room : c.args.self.now.next ≤ length (words_of c.args.segment.now) = omega (arith, c.requires.within, length-words_of c.args.segment.now) in
    (passing_begins _ _ c.args.nesting c.args.self.now.walk.left c.args.self.now.next room, c.requires.first, c.requires.before)

pub test_pointers-test-requires : goal.test_pointers-test-requires
test_pointers-test-requires g t c κs lives =
    let so_far = c.pointers.invariant in
    (omega (arith, c.decreases), (lives, (c.requires.one, (omega (arith, so_far.2, c.take-place.ensures.within), omega (arith, so_far.0.passes.room, length-words_of c.args.segment.now)))))

pub test_pointers-returns-in_err-test-clause-errors : goal.test_pointers-returns-in_err-test-clause-errors
test_pointers-returns-in_err-test-clause-errors g t c =
    passed_on _ _ c.from_residual.ensures.1
    (going_ends c.take-place.ensures.taken.places_are (c.take-place.ensures.segment ∙ c.pointers.invariant.1) c.pointers.invariant.0 c.in_err-test.ensures.errors)

pub test_pointers-returns-then-not-branch-clause-ended : goal.test_pointers-returns-then-not-branch-clause-ended
test_pointers-returns-then-not-branch-clause-ended g t c same =
    going_ends c.take-place.ensures.taken.places_are (c.take-place.ensures.segment ∙ c.pointers.invariant.1) c.pointers.invariant.0 (c.in_ok-test.ensures.ended c.if-not-branch.true)

pub test_pointers-pointers-preserved : goal.test_pointers-pointers-preserved
test_pointers-pointers-preserved g t c =
    let passed = c.in_ok-test.ensures.passed c.if-not-branch.false in (
      going_next c.take-place.ensures.taken.places_are (c.take-place.ensures.segment ∙ c.pointers.invariant.1) c.pointers.invariant.0 passed,
      c.take-place.ensures.same_segment ∙ c.pointers.invariant.1,
      omega (arith, c.pointers.invariant.2, c.take-place.ensures.taken.same_end, passed.passes.after_is),
    )
