-- The object at a landing, and each error on the way.
use Rattle.std.proofs.Common.{◌<◌, sym, subst, arith}
use Rattle.std.proofs.lemmas.Result.{err_from_is_err_and}
use Rattle.capnp_layout.specs.Prelude.{message_of, IsStart, IsLanding, PointerError, too_deep, no_start, misfits, words_of}
use Rattle.capnp_layout.proofs.pointers.LandingPadTargetsAndErrorsLemmas.{object_is_at}
use Rattle.capnp_layout.proofs.trees.ReadTreeSizesAndWordsBoundedLemmas.{room_of_shape}
use Rattle.capnp_layout.proofs.object.object_in.Goals as goal

pub returns-then-nesting-eq0-clause-errors : goal.returns-then-nesting-eq0-clause-errors
returns-then-nesting-eq0-clause-errors g c =
    let m = message_of (g.S.ReaderSegments.segments c.args.segments.now) in
    let landing : IsLanding m c.args.place c.in-Some.landing = rw c.in-Some.is at c.in_ok-landing.ensures.found in
    subst (PointerError m c.args.place c.args.nesting) (sym c.from_kind.ensures) (too_deep landing.lands c.if-nesting-eq0.true)

pub returns-in_default-start-clause-errors : goal.returns-in_default-start-clause-errors
returns-in_default-start-clause-errors g c =
    let m = message_of (g.S.ReaderSegments.segments c.args.segments.now) in
    let landing : IsLanding m c.args.place c.in-Some.landing = rw c.in-Some.is at c.in_ok-landing.ensures.found in
    let enough : 0 < c.args.nesting = omega arith in
    subst (PointerError m c.args.place c.args.nesting) (sym c.from_kind-in_default-start.ensures)
    (no_start landing.lands enough (rw c.in_default-start.is at landing.start))

pub returns-in_err-body-clause-errors : goal.returns-in_err-body-clause-errors
returns-in_err-body-clause-errors g c =
    let p = err_from_is_err_and c.from_residual-in_err-body.result c.from_residual-in_err-body.ensures.1 in
    let m = message_of (g.S.ReaderSegments.segments c.args.segments.now) in
    let landing : IsLanding m c.args.place c.in-Some.landing = rw c.in-Some.is at c.in_ok-landing.ensures.found in
    let enough : 0 < c.args.nesting = omega arith in
    let begins : IsStart landing.landing.origin landing.landing.tag c.in-Some-start.start = rw c.in-Some-start.is at landing.start in
    rw (p.1, p.2) (misfits landing.lands enough begins landing.content (c.in_err-body.ensures.errors landing.landing.tag landing.shape))

pub returns-clause-found : goal.returns-clause-found
returns-clause-found g c =
    let m = message_of (g.S.ReaderSegments.segments c.args.segments.now) in
    let landing : IsLanding m c.args.place c.in-Some.landing = rw c.in-Some.is at c.in_ok-landing.ensures.found in
    let object = object_is_at m c.args.place c.in-Some.landing c.in-Some-start.start c.in_ok-body.body c.traversed.result landing c.in-Some-start.is
    c.in_ok-body.ensures.found c.traversed.ensures.traversed in
    let begins : IsStart landing.landing.origin landing.landing.tag c.in-Some-start.start = rw c.in-Some-start.is at landing.start in (
      record {
        content = rw (← landing.number) landing.content;
        object = object;
        landing = landing.landing;
        lands = landing.lands;
        number = landing.number;
        begins = begins;
        room = c.in_ok-body.ensures.room;
        elements = c.in_ok-body.ensures.elements;
        traversed = omega (arith, c.traversed.ensures.traversed);
        has_room = room_of_shape (words_of c.in-Some.landing.segment.now) (record { segment = c.in-Some.landing.number; word = c.in-Some-start.start }) landing.landing.tag _ landing.small
            c.words_fit.ensures.words
            (c.in_ok-body.ensures.found landing.landing.tag c.in-Some.landing.number landing.shape);
      },
      omega arith,
    )
