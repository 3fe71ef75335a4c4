-- A pointer is a struct or list pointer, a far pointer, or neither.
use Rattle.std.proofs.Common.{◌<◌, Some, sym, ◌∙◌, ap, subst, arith, lit≤}
use Rattle.std.proofs.lemmas.Result.{err_from_is_err_and}
use Rattle.capnp_layout.specs.Prelude.{message_of, local, PointerError, no_word, past_segment, bad_landing_pad, capability}
use Rattle.capnp_layout.proofs.pointers.LocalObjectIsAtLemmas.{word_there}
use Rattle.capnp_layout.proofs.pointers.LandingPadTargetsAndErrorsLemmas.{local_landing}
use Rattle.capnp_layout.proofs.landing_pad.resolve.Goals as goal

pub returns-in_err-pointer-clause-errors : goal.returns-in_err-pointer-clause-errors
returns-in_err-pointer-clause-errors g c =
    let p = err_from_is_err_and c.from_residual.result c.from_residual.ensures.1 in
    let m = message_of (g.S.ReaderSegments.segments c.args.segments.now) in
    rw (p.1, p.2) (λ nesting. subst (PointerError m c.args.place nesting) (sym c.in_err-pointer.ensures.1)
    (no_word (past_segment c.requires.content c.in_err-pointer.ensures.0)))

pub returns-then-pointer-eq0-clause-found : goal.returns-then-pointer-eq0-clause-found
returns-then-pointer-eq0-clause-found g c =
    word_there _ c.args.place _ 0 c.requires.content (c.in_ok-pointer.ensures.0 ∙ ap Some c.if-pointer-eq0.true)

pub returns-in_err-resolve_far-in-Far-clause-errors : goal.returns-in_err-resolve_far-in-Far-clause-errors
returns-in_err-resolve_far-in-Far-clause-errors g c =
    let p = err_from_is_err_and c.from_residual-in_err-resolve_far-in-Far.result c.from_residual-in_err-resolve_far-in-Far.ensures.1 in
    let word = word_there _ c.args.place _ c.in_ok-pointer.pointer c.requires.content c.in_ok-pointer.ensures.0 in
    rw (p.1, p.2) (λ nesting. bad_landing_pad word c.in-Far.ensures.far_kind (c.in_err-resolve_far-in-Far.ensures.errors c.in_ok-pointer.pointer c.in-Far.ensures))

pub returns-in-Local-clause-found : goal.returns-in-Local-clause-found
returns-in-Local-clause-found g c =
    let segments = g.S.ReaderSegments.segments c.args.segments.now in
    let word = word_there _ c.args.place _ c.in_ok-pointer.pointer c.requires.content c.in_ok-pointer.ensures.0 in
    let positive : 0 < c.in_ok-pointer.pointer = omega arith in
    let landed = c.resolve_local.ensures in
    local_landing (message_of segments) c.args.place c.args.place c.in_ok-pointer.pointer 0 c.in-Local.local _ _
    (local word positive c.in-Local.ensures.local_kind) (lit≤ tt) c.requires.content c.in-Local.ensures
    (record { segment = landed.segment; number = landed.number; shape = landed.shape; landing_pads_are = landed.landing_pads; start = landed.start })

pub returns-in_ok-resolve_far-in-Far-clause-found : goal.returns-in_ok-resolve_far-in-Far-clause-found
returns-in_ok-resolve_far-in-Far-clause-found g c =
    let word = word_there _ c.args.place _ c.in_ok-pointer.pointer c.requires.content c.in_ok-pointer.ensures.0 in
    c.in_ok-resolve_far-in-Far.ensures.found c.args.place c.in_ok-pointer.pointer word c.in-Far.ensures

pub returns-in-Other-clause-errors : goal.returns-in-Other-clause-errors
returns-in-Other-clause-errors g c = λ nesting.
    let m = message_of (g.S.ReaderSegments.segments c.args.segments.now) in
    let word = word_there _ c.args.place _ c.in_ok-pointer.pointer c.requires.content c.in_ok-pointer.ensures.0 in
    subst (PointerError m c.args.place nesting) (sym c.from_kind.ensures) (capability word c.in-Other.ensures)
