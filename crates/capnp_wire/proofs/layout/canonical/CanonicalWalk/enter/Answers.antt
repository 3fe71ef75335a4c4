-- What a walk finds at an object that it enters, for each way out of the function.
use Rattle.std.proofs.Common.{◌≡◌, refl, arith, true, false}
use Rattle.capnp_layout.specs.Prelude.{words_of}
use Rattle.capnp_wire.specs.Prelude.{elsewhere}
use Rattle.capnp_layout.proofs.words.WordsOfBytesLemmas.{length-words_of}
use Rattle.capnp_frame.proofs.sources.JoinedCallsAdvanceSourceLemmas.{passed_on}
use Rattle.capnp_wire.proofs.walks.ObjectTestedBeforePointersLemmas.{met, met_pointers, tests_say, limit_ends}
use Rattle.capnp_wire.proofs.layout.canonical.CanonicalWalk.enter.Goals as goal

pub returns-in_err-count_traversed-clause-errors : goal.returns-in_err-count_traversed-clause-errors
returns-in_err-count_traversed-clause-errors c nesting deep =
    let m = met (words_of c.args.segment.now) _ c.args.word nesting c.args.self.now.next c.args.pointer c.args.self.now.walk.left c.args.object.now refl
    c.requires.object (length-words_of c.args.object.now.segment.now) c.requires.there c.requires.not_far deep in
    passed_on _ _ c.from_residual.ensures.1 (limit_ends _ m c.requires.not_far deep c.in_err-count_traversed.ensures.errors.0 c.in_err-count_traversed.ensures.errors.1)

pub returns-then-not-is_laid_out-clause-found : goal.returns-then-not-is_laid_out-clause-found
returns-then-not-is_laid_out-clause-found c nesting deep =
    let m = met (words_of c.args.segment.now) _ c.args.word nesting c.args.self.now.next c.args.pointer c.args.self.now.walk.left c.args.object.now refl
    c.requires.object (length-words_of c.args.object.now.segment.now) c.requires.there c.requires.not_far deep in
    elsewhere (m.meets c.in_ok-count_traversed.ensures.within) (λ laid.
    let on : c.is_laid_out.result ≡ true = (tests_say _ m c.requires.before c.requires.within (length-words_of c.args.segment.now) c.is_laid_out.ensures).1 laid in
    let off : c.is_laid_out.result ≡ false = c.if-not-is_laid_out.true in
    cc)

pub returns-clause-found : goal.returns-clause-found
returns-clause-found c nesting deep =
    let m = met (words_of c.args.segment.now) _ c.args.word nesting c.args.self.now.next c.args.pointer c.args.self.now.walk.left c.args.object.now refl
    c.requires.object (length-words_of c.args.object.now.segment.now) c.requires.there c.requires.not_far deep in
    let long = length-words_of c.args.segment.now in
    let laid = (tests_say _ m c.requires.before c.requires.within long c.is_laid_out.ensures).0 c.if-not-is_laid_out.false in
    met_pointers c.count_traversed.new.self.left c.words.result c.pointers.result m c.requires.before (omega (arith, c.requires.within, long)) laid
    c.in_ok-count_traversed.ensures.within c.in_ok-count_traversed.ensures.left c.words.ensures c.pointers.ensures.places c.pointers.ensures.segment c.pointers.ensures.end
