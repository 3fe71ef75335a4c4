-- What a walk meets at a pointer: the fast paths first.
use Rattle.std.proofs.Common.{◌∷◌, [], ◌∙◌, Some, refl, ap}
use Rattle.capnp_layout.specs.Prelude.{words_of, past_segment}
use Rattle.capnp_wire.specs.Prelude.{far}
use Rattle.capnp_frame.proofs.sources.JoinedCallsAdvanceSourceLemmas.{passed_on}
use Rattle.capnp_wire.proofs.walks.ObjectTestedBeforePointersLemmas.{no_word_ends}
use Rattle.capnp_wire.proofs.layout.canonical.CanonicalWalk.visit.Goals as goal

pub returns-in_err-pointer-clause-errors : goal.returns-in_err-pointer-clause-errors
returns-in_err-pointer-clause-errors g c =
    let words = words_of c.args.segment.now in
    passed_on _ _ c.from_residual.ensures.1 (no_word_ends words (words ∷ []) c.args.word c.args.nesting c.args.self.now.next c.args.self.now.walk.left _ refl
    (rw c.in_err-pointer.ensures.1 (past_segment refl c.in_err-pointer.ensures.0)))

pub returns-then-pointer-eq0-clause-found : goal.returns-then-pointer-eq0-clause-found
returns-then-pointer-eq0-clause-found g c = (c.in_ok-pointer.ensures.0 ∙ ap Some c.if-pointer-eq0.true, refl, refl)

pub returns-then-pointer-eq2-clause-found : goal.returns-then-pointer-eq2-clause-found
returns-then-pointer-eq2-clause-found g c = far (c.in_ok-pointer.pointer, c.in_ok-pointer.ensures.0, c.if-pointer-eq2.true)

pub enter-requires : goal.enter-requires
enter-requires g c = record {
  before = c.requires.before;
  within = c.requires.within;
  there = c.in_ok-pointer.ensures.0;
  not_far = c.if-pointer-eq2.false;
  object = rw c.object.ensures (c.in-Some.ensures (words_of c.args.segment.now ∷ []) refl).0;
}

pub returns-in-Some-clause-found : goal.returns-in-Some-clause-found
returns-in-Some-clause-found g c = c.enter.ensures.found c.args.nesting (c.in-Some.ensures (words_of c.args.segment.now ∷ []) refl).1

pub returns-in-Some-clause-errors : goal.returns-in-Some-clause-errors
returns-in-Some-clause-errors g c = c.enter.ensures.errors c.args.nesting (c.in-Some.ensures (words_of c.args.segment.now ∷ []) refl).1

pub enter-requires-in-Some-local_list-clause-object : goal.enter-requires-in-Some-local_list-clause-object
enter-requires-in-Some-local_list-clause-object g c = rw c.object-in-Some-local_list.ensures (c.in-Some-local_list.ensures (words_of c.args.segment.now ∷ []) refl).0

pub returns-in-Some-local_list-clause-found : goal.returns-in-Some-local_list-clause-found
returns-in-Some-local_list-clause-found g c = c.enter-in-Some-local_list.ensures.found c.args.nesting (c.in-Some-local_list.ensures (words_of c.args.segment.now ∷ []) refl).1

pub returns-in-Some-local_list-clause-errors : goal.returns-in-Some-local_list-clause-errors
returns-in-Some-local_list-clause-errors g c = c.enter-in-Some-local_list.ensures.errors c.args.nesting (c.in-Some-local_list.ensures (words_of c.args.segment.now ∷ []) refl).1
