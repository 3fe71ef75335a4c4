-- What a walk meets at a pointer that is no far pointer.
use Rattle.std.proofs.Common.{◌≡◌, ◌<◌, List, [], ◌∷◌, Some, ℕ, refl, sym, subst}
use Rattle.capnp_layout.specs.Prelude.{words_of, IsObject, word_at}
use Rattle.capnp_frame.proofs.sources.JoinedCallsAdvanceSourceLemmas.{passed_on}
use Rattle.capnp_wire.proofs.walks.ObjectTestedBeforePointersLemmas.{pointer_error_ends}
use Rattle.capnp_wire.proofs.layout.canonical.CanonicalWalk.visit_object.Given as given
use Rattle.capnp_wire.proofs.layout.canonical.CanonicalWalk.visit_object.Goals as goal
use Rattle.capnp_wire.proofs.layout.canonical.CanonicalWalk.visit_object.Goals.{In-Some}

pub returns-in_err-object-clause-errors : goal.returns-in_err-object-clause-errors
returns-in_err-object-clause-errors g c =
    let there = subst (λ (x : List (List ℕ)). word_at x (record { segment = 0; word = c.args.word }) ≡ Some c.args.pointer) (sym c.requires.one) c.requires.there in
    passed_on _ _ c.from_residual.ensures.1 (pointer_error_ends _ _ c.args.word c.args.nesting c.args.self.now.next c.args.pointer c.args.self.now.walk.left _ c.requires.one
    there c.requires.not_far c.in_err-object.ensures.errors)

pub returns-in_default-clause-found : goal.returns-in_default-clause-found
returns-in_default-clause-found g c =
    (subst (λ (x : List (List ℕ)). word_at x (record { segment = 0; word = c.args.word }) ≡ Some 0) c.requires.one (rw c.in_default.is at c.in_ok-object.ensures.found), refl, refl)

found_there : (g : given.Over) (c : In-Some g) → IsObject (words_of c.args.segment.now ∷ []) (record { segment = 0; word = c.args.word }) c.in-Some.object × (0 < c.args.nesting)
found_there g c =
    let found = rw c.in-Some.is at c.in_ok-object.ensures.found in
    (subst (λ (x : List (List ℕ)). IsObject x (record { segment = 0; word = c.args.word }) c.in-Some.object) c.requires.one found.0, found.1)

pub enter-requires : goal.enter-requires
enter-requires g c = record {
  before = c.requires.before;
  within = c.requires.within;
  there = c.requires.there;
  not_far = c.requires.not_far;
  object = (found_there g (goal.at.enter-requires g c).In-Some).0;
}

pub returns-clause-found : goal.returns-clause-found
returns-clause-found g c = c.enter.ensures.found c.args.nesting (found_there g (goal.at.returns-clause-found g c).In-Some).1

pub returns-clause-errors : goal.returns-clause-errors
returns-clause-errors g c = c.enter.ensures.errors c.args.nesting (found_there g (goal.at.returns-clause-errors g c).In-Some).1
