-- What is found in the segment of the pointer is entered where its words are within what is left of the limit.
use Rattle.std.proofs.Common.{sym}
use Rattle.capnp_layout.proofs.words.WordAtPlaceLemmas.{segment_is_there}
use Rattle.capnp_c.proofs.reading.fast_path.enter_local.Goals as goal

pub begin_of-start-requires-clause-content : goal.begin_of-start-requires-clause-content
begin_of-start-requires-clause-content c =
    let found = c.in_ok-object.ensures _ (segment_is_there _ c.in_ok-place.place.segment _ (sym c.in_ok-segment.ensures)) in
    found.0.content

pub begin_of-start-requires-clause-room : goal.begin_of-start-requires-clause-room
begin_of-start-requires-clause-room c =
    let found = c.in_ok-object.ensures _ (segment_is_there _ c.in_ok-place.place.segment _ (sym c.in_ok-segment.ensures)) in
    found.0.room

pub returns : goal.returns
returns c =
    let found = c.in_ok-object.ensures _ (segment_is_there _ c.in_ok-place.place.segment _ (sym c.in_ok-segment.ensures)) in
    record {
      object = record {
        place = c.in_ok-place.place;
        is_at = sym c.in_ok-place.ensures;
        object_is = found.0;
        nesting = found.1;
        within = c.in-Ok.ensures.0;
      };
      within = c.begin_of-start.ensures.within;
      words = c.begin_of-start.ensures.words;
      left = c.in-Ok.ensures.1;
      nesting = c.saturating_sub.ensures;
    }
