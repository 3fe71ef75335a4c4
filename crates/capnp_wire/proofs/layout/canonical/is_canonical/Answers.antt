-- The walk from the root, and whether it has passed all words.
use Rattle.std.proofs.Common.{◌≡◌, ◌≤◌, ◌/◌, [], ◌∷◌, length, refl, sym, ◌∙◌, arith, false}
use Rattle.std.proofs.lemmas.Bool.Decides.{nat_tests}
use Rattle.capnp_layout.specs.Prelude.{words_of, root}
use Rattle.capnp_layout.proofs.words.WordsOfBytesLemmas.{length-words_of}
use Rattle.capnp_layout.proofs.objects.ByteListElementLemmas.{all_words_below}
use Rattle.capnp_frame.proofs.sources.JoinedCallsAdvanceSourceLemmas.{passed_on}
use Rattle.capnp_layout.proofs.pointers.LandingPadTargetsAndErrorsLemmas.{passed_kind}
use Rattle.capnp_wire.proofs.walks.ObjectTestedBeforePointersLemmas.{no_word_ends}
use Rattle.capnp_wire.proofs.walks.UniqueCanonicalTestOutcomeLemmas.{error_passes, one_way_to_end, one_error_ends}
use Rattle.capnp_wire.proofs.forms.CanonicalTestResultFromWalkLemmas.{ended_is_not, whole_or_not, root_some}
use Rattle.capnp_wire.proofs.layout.canonical.is_canonical.Goals as goal

pub returns-in_err-pointer_at-clause-errors : goal.returns-in_err-pointer_at-clause-errors
returns-in_err-pointer_at-clause-errors g c =
    passed_on _ _ c.from_residual.ensures.1 (no_word_ends (words_of c.args.segment.now) _ 0 c.args.nesting 1 c.args.limit _ c.requires c.in_err-pointer_at.ensures)

pub returns-in_err-pointer_at-clause-exact : goal.returns-in_err-pointer_at-clause-exact
returns-in_err-pointer_at-clause-exact g c kind ends =
    passed_kind _ c.from_residual.ensures.1 (one_error_ends (words_of c.args.segment.now) (root ∷ []) c.args.nesting 1 c.args.limit _ kind
    (no_word_ends (words_of c.args.segment.now) _ 0 c.args.nesting 1 c.args.limit _ c.requires c.in_err-pointer_at.ensures) ends)

pub returns-in_err-passes-clause-exact : goal.returns-in_err-passes-clause-exact
returns-in_err-passes-clause-exact g c kind ends =
    let ended = rw (c.new-walk.ensures.left, c.new-walk.ensures.next) at c.in_err-passes.ensures.errors in
    passed_kind _ c.from_residual-in_err-passes.ensures.1 (one_error_ends (words_of c.args.segment.now) (root ∷ []) c.args.nesting 1 c.args.limit _ kind ended ends)

pub returns-then-passes-clause-said : goal.returns-then-passes-clause-said
returns-then-passes-clause-said g c =
    let all = all_words_below c.args.segment.now (λ i. omega (arith, c.type_inv.segment i)) in
    let passed = c.in_ok-passes.ensures.passed c.if-passes.true in
    let at_first = rw c.new-walk.ensures.next at passed.passes in
    let e = whole_or_not (words_of c.args.segment.now) c.args.nesting passed.traversed c.test.new.self.next (length c.args.segment.now / 8) all at_first (length-words_of c.args.segment.now) in
    let is : c.next.result ≡ c.test.new.self.next = c.next.ensures in (
      λ t. (let same : c.next.result ≡ length c.args.segment.now / 8 = grind (arith, nat_tests) in e.0 (sym is ∙ same)),
      λ canonical. (let same : c.next.result ≡ length c.args.segment.now / 8 = is ∙ e.1 canonical in grind (arith, nat_tests)),
    )

pub returns-then-passes-clause-exact : goal.returns-then-passes-clause-exact
returns-then-passes-clause-exact g c kind ends =
    let passed = c.in_ok-passes.ensures.passed c.if-passes.true in
    error_passes (words_of c.args.segment.now) (root ∷ []) c.args.nesting passed.traversed 1 c.new-walk.result.next c.test.new.self.next c.args.limit kind ends passed.passes
    (rw c.new-walk.ensures.left at passed.within)

pub returns-else-passes-clause-said : goal.returns-else-passes-clause-said
returns-else-passes-clause-said g c =
    let all = all_words_below c.args.segment.now (λ i. omega (arith, c.type_inv.segment i)) in
    let ended = rw (c.new-walk.ensures.left, c.new-walk.ensures.next) at (c.in_ok-passes.ensures.ended c.if-passes.false) in
    let some : 1 ≤ length (words_of c.args.segment.now) = root_some _ (words_of c.args.segment.now) _ c.requires c.in_ok-pointer_at.ensures in (
      λ t. absurd (let off : c.in_ok-passes.passes ≡ false = c.if-passes.false in cc),
      λ canonical. absurd (ended_is_not (words_of c.args.segment.now) c.args.nesting c.args.limit all some ended canonical),
    )

pub returns-else-passes-clause-exact : goal.returns-else-passes-clause-exact
returns-else-passes-clause-exact g c kind ends =
    let all = all_words_below c.args.segment.now (λ i. omega (arith, c.type_inv.segment i)) in
    let ended = rw (c.new-walk.ensures.left, c.new-walk.ensures.next) at (c.in_ok-passes.ensures.ended c.if-passes.false) in
    let some : 1 ≤ length (words_of c.args.segment.now) = root_some _ (words_of c.args.segment.now) _ c.requires c.in_ok-pointer_at.ensures in
    one_way_to_end (words_of c.args.segment.now) (root ∷ []) c.args.nesting 1 c.args.limit kind all (refl, omega arith, tt) some ends ended
