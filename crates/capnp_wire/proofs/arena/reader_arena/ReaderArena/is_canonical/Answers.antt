-- What the walk over the one segment says of it holds of the message.
use Rattle.std.proofs.Common.{ℕ, sym, ◌∙◌, subst}
use Rattle.capnp_layout.specs.Prelude.{message_of, words_of}
use Rattle.capnp_wire.specs.Prelude.{CanonicityError, no_first_segment, nesting_of}
use Rattle.capnp_wire.proofs.forms.CanonicalTestResultFromWalkLemmas.{no_segment_there, one_segment_there, more_is_not, said_of_more, unsaid_of_none, unsaid_error, said_at}
use Rattle.capnp_wire.proofs.forms.CanonicalTestResultFromWalkLemmas.{said_exactly, said_where_found, said_error, second_shown, no_second, none_has_no_root}
use Rattle.capnp_wire.proofs.arena.reader_arena.ReaderArena.is_canonical.Goals as goal

pub returns-in_default : goal.returns-in_default
returns-in_default g c =
    let m = message_of (g.S.ReaderSegments.segments c.args.self.now.segments) in
    let nesting = nesting_of c.args.self.now.nesting_limit in
    let limit = c.args.self.now.limiter.limit in
    let none = no_segment_there _ (sym c.in_default.ensures) in
    let unsaid : CanonicityError m nesting limit c.from_kind.result.kind = subst (CanonicityError m nesting limit) (sym c.from_kind.ensures) (no_first_segment none) in
    record {
      returned = unsaid;
      exact = λ kind other. c.from_kind.ensures ∙ unsaid_of_none _ _ _ kind none other;
      found = λ form children traversed are_at shallow fits. absurd (none_has_no_root _ form children traversed none are_at);
      walk_error = unsaid_error m nesting limit _ unsaid;
    }

pub returns-then-is_some-clause-returned : goal.returns-then-is_some-clause-returned
returns-then-is_some-clause-returned g c =
    let segments = g.S.ReaderSegments.segments c.args.self.now.segments in
    let second = second_shown c.get_segment-2.result segments c.is_some.result c.is_some.ensures c.get_segment-2.ensures c.if-is_some.true in
    (λ never. absurd (cc), λ canonical. absurd (more_is_not segments second.0 second.1 canonical))

pub returns-then-is_some-clause-exact : goal.returns-then-is_some-clause-exact
returns-then-is_some-clause-exact g c kind unsaid =
    let segments = g.S.ReaderSegments.segments c.args.self.now.segments in
    let second = second_shown c.get_segment-2.result segments c.is_some.result c.is_some.ensures c.get_segment-2.ensures c.if-is_some.true in
    said_of_more segments second.0 _ _ kind second.1 unsaid

pub is_canonical-requires : goal.is_canonical-requires
is_canonical-requires g c =
    let segments = g.S.ReaderSegments.segments c.args.self.now.segments in
    one_segment_there segments c.in-Some.segment.now (sym c.in-Some.ensures) (no_second c.get_segment-2.result segments c.is_some.result c.is_some.ensures c.get_segment-2.ensures c.if-is_some.false)

pub returns : goal.returns
returns g c =
    let segments = g.S.ReaderSegments.segments c.args.self.now.segments in
    let m = message_of segments in
    let words = words_of c.in-Some.segment.now in
    let nesting = nesting_of c.args.self.now.nesting_limit in
    let limit = c.args.self.now.limiter.limit in
    let one = one_segment_there segments c.in-Some.segment.now (sym c.in-Some.ensures)
    (no_second c.get_segment-2.result segments c.is_some.result c.is_some.ensures c.get_segment-2.ensures c.if-is_some.false) in
    let said = said_at m words c.nesting.result _ limit c.is_canonical.result c.nesting.ensures one c.is_canonical.ensures.said c.is_canonical.ensures.errors in
    record {
      returned = said;
      exact = λ kind unsaid. said_exactly m words c.nesting.result limit c.is_canonical.result kind one c.is_canonical.ensures.exact
          (subst (λ (l : ℕ). CanonicityError m l limit kind) (sym c.nesting.ensures) unsaid);
      found = said_where_found m nesting limit c.is_canonical.result said;
      walk_error = said_error m nesting limit c.is_canonical.result said;
    }
