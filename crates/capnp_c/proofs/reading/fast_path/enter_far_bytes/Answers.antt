-- What is found after the landing pad is entered where its words are within what is left of the limit.
use Rattle.std.proofs.Common.{sym}
use Rattle.capnp_layout.proofs.words.WordAtPlaceLemmas.{segment_is_there, word_is_in_message}
use Rattle.capnp_c.proofs.reading.fast_path.enter_far_bytes.Goals as goal

pub begin_before-start-requires-clause-content : goal.begin_before-start-requires-clause-content
begin_before-start-requires-clause-content c =
    let far_there = word_is_in_message _ c.in_ok-place.place _ c.in_ok-far.far (sym c.in_ok-segment.ensures) (sym c.in_ok-far.ensures.value) in
    let landing_there = segment_is_there _ c.in_ok-landing.landing.segment _ c.in_ok-found.ensures.0 in
    let found = c.in_ok-object.ensures _ c.in_ok-place.place c.in_ok-far.far landing_there far_there c.in_ok-landing.ensures.0 c.in_ok-landing.ensures.1 in
    found.0.content

pub begin_before-start-requires-clause-room : goal.begin_before-start-requires-clause-room
begin_before-start-requires-clause-room c =
    let far_there = word_is_in_message _ c.in_ok-place.place _ c.in_ok-far.far (sym c.in_ok-segment.ensures) (sym c.in_ok-far.ensures.value) in
    let landing_there = segment_is_there _ c.in_ok-landing.landing.segment _ c.in_ok-found.ensures.0 in
    let found = c.in_ok-object.ensures _ c.in_ok-place.place c.in_ok-far.far landing_there far_there c.in_ok-landing.ensures.0 c.in_ok-landing.ensures.1 in
    found.0.room

pub begin_before-start-requires-clause-rest : goal.begin_before-start-requires-clause-rest
begin_before-start-requires-clause-rest c =
    let far_there = word_is_in_message _ c.in_ok-place.place _ c.in_ok-far.far (sym c.in_ok-segment.ensures) (sym c.in_ok-far.ensures.value) in
    let landing_there = segment_is_there _ c.in_ok-landing.landing.segment _ c.in_ok-found.ensures.0 in
    let found = c.in_ok-object.ensures _ c.in_ok-place.place c.in_ok-far.far landing_there far_there c.in_ok-landing.ensures.0 c.in_ok-landing.ensures.1 in
    rw found.2 c.in_ok-found.ensures.1

pub returns : goal.returns
returns c =
    let far_there = word_is_in_message _ c.in_ok-place.place _ c.in_ok-far.far (sym c.in_ok-segment.ensures) (sym c.in_ok-far.ensures.value) in
    let landing_there = segment_is_there _ c.in_ok-landing.landing.segment _ c.in_ok-found.ensures.0 in
    let found = c.in_ok-object.ensures _ c.in_ok-place.place c.in_ok-far.far landing_there far_there c.in_ok-landing.ensures.0 c.in_ok-landing.ensures.1 in
    record {
      object = record {
        place = c.in_ok-place.place;
        is_at = sym c.in_ok-place.ensures;
        object_is = found.0;
        nesting = found.1;
        within = c.in-Ok.ensures.0;
      };
      within = c.begin_before-start.ensures.within;
      words = c.begin_before-start.ensures.words;
      left = c.in-Ok.ensures.1;
      nesting = c.saturating_sub-nesting.ensures;
    }
