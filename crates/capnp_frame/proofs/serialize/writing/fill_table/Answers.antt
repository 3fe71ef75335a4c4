-- Each turn fills in the length of the segment at the index.
use Rattle.std.proofs.Common.{◌+◌, ◌*◌, length, take, arith, sym}
use Rattle.std.proofs.lemmas.List.{take_all}
use Rattle.capnp_frame.specs.Prelude.{lengths, word_count}
use Rattle.capnp_frame.proofs.sinks.JoinedChunkListLemmas.{lengths-next, fits_at, length-lengths, length-lengths_take}
use Rattle.capnp_frame.proofs.sinks.TableFilledFieldByFieldLemmas.{filled_first, filled_next, filled_all, length-filled}
use Rattle.capnp_frame.proofs.serialize.writing.fill_table.Goals as goal

pub overflow_cast-segment : goal.overflow_cast-segment
overflow_cast-segment g c =
    let segments = g.S.ReaderSegments.segments c.args.segments.now in
    let here = c.in-Some.ensures.here in
    let fits = fits_at segments c.loop-segment.index c.in-Some.segment.now c.requires.writable.each here in
    omega arith

pub put_field-requires-in-Some : goal.put_field-requires-in-Some
put_field-requires-in-Some g c =
    let segments = g.S.ReaderSegments.segments c.args.segments.now in
    let here = c.in-Some.ensures.here in
    let within = c.in-Some.ensures.within in
    let declared = length-lengths_take segments c.loop-segment.index c.loop-segment.invariant.within in
    let long = length-filled (length segments) (lengths (take c.loop-segment.index segments)) c.loop-segment.table c.loop-segment.invariant.filled (omega arith) c.requires.writable.some in
    omega arith

pub loop-segment-init : goal.loop-segment-init
loop-segment-init g c =
    let segments = g.S.ReaderSegments.segments c.args.segments.now in
    record {
      within = omega arith;
      filled = filled_first (length segments) c.args.table.now c.put_field.new.table c.requires.writable.some c.requires.zero (rw c.len.ensures at c.put_field.ensures);
    }

pub loop-segment-preserved : goal.loop-segment-preserved
loop-segment-preserved g c =
    let segments = g.S.ReaderSegments.segments c.args.segments.now in
    let index = c.loop-segment.index in
    let here = c.in-Some.ensures.here in
    let within = c.in-Some.ensures.within in
    let declared = length-lengths_take segments index c.loop-segment.invariant.within in
    record {
      within = omega arith;
      filled = rw (lengths-next segments index c.in-Some.segment.now here)
          (filled_next (length segments) (lengths (take index segments)) c.loop-segment.table
          c.put_field-in-Some.new.table (4 * (index + 1)) (word_count c.in-Some.segment.now)
          c.loop-segment.invariant.filled (omega arith) c.put_field-in-Some.ensures);
    }

pub returns : goal.returns
returns g c =
    let segments = g.S.ReaderSegments.segments c.args.segments.now in
    let past = rw c.in_default.is at c.segment_at.ensures.end in
    let all = take_all c.loop-segment.index segments past in
    filled_all (length segments) (lengths segments) c.loop-segment.table (rw all at c.loop-segment.invariant.filled) (sym (length-lengths segments)) c.requires.writable.some
