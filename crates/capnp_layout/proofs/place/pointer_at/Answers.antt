-- The word at a place, or which of segment and word is missing.
use Rattle.std.proofs.Common.{sym, subst}
use Rattle.std.proofs.lemmas.Result.{err_from_is_err_and}
use Rattle.capnp_layout.specs.Prelude.{message_of, NoWord, no_segment, past_segment}
use Rattle.capnp_layout.proofs.words.WordAtPlaceLemmas.{segment_is_there, no_segment_is_there, word_is_in_message}
use Rattle.capnp_layout.proofs.place.pointer_at.Goals as goal

pub returns-in_err-segment : goal.returns-in_err-segment
returns-in_err-segment g c =
    let p = err_from_is_err_and c.from_residual.result c.from_residual.ensures.1 in
    let m = message_of (g.S.ReaderSegments.segments c.args.segments.now) in
    rw (p.1, p.2) (subst (NoWord m c.args.place) (sym c.in_err-segment.ensures.1) (no_segment (no_segment_is_there _ c.args.place.segment c.in_err-segment.ensures.0)))

pub returns-in_err-word : goal.returns-in_err-word
returns-in_err-word g c =
    let p = err_from_is_err_and c.from_residual-in_err-word.result c.from_residual-in_err-word.ensures.1 in
    let m = message_of (g.S.ReaderSegments.segments c.args.segments.now) in
    rw (p.1, p.2) (subst (NoWord m c.args.place) (sym c.in_err-word.ensures.1) (past_segment (segment_is_there _ c.args.place.segment _ c.in_ok-segment.ensures) c.in_err-word.ensures.0))

pub returns : goal.returns
returns g c = word_is_in_message _ c.args.place _ c.in_ok-word.word c.in_ok-segment.ensures c.in_ok-word.ensures.0
