-- Each turn reads one more message; where the reading stops, the stream ends, or an allocation failed.
use Rattle.std.proofs.Common.{◌<◌, length, refl, ap, map, inl, inr, None, Some, arith}
use Rattle.capnp.specs.Prelude.{grammar_of, IsMemoryError}
use Rattle.capnp.proofs.SliceStreamReadToItsEndLemmas.{encodings_within, next_encodings, stream_error_ends, reading_ended, moves_on, memory_kind}
use Rattle.capnp.proofs.streams.reading.every_message.Goals as goal

pub overflow_sub-end : goal.overflow_sub-end
overflow_sub-end c = encodings_within (grammar_of c.args.padding c.args.format) c.args.options.traversal_limit_in_words _ c.args.stream.now c.add_next.new.rest.now
    (next_encodings c.args.padding c.args.format c.args.options.traversal_limit_in_words _ _ c.args.stream.now c.loop-count.rest.now c.add_next.new.rest.now
    c.loop-count.invariant.encodings (c.in-Ok-true.ensures.added c.in-Ok-true.field-0-test))

pub loop-count-preserved : goal.loop-count-preserved
loop-count-preserved c = record {
  encodings = next_encodings c.args.padding c.args.format c.args.options.traversal_limit_in_words _ _ c.args.stream.now c.loop-count.rest.now c.add_next.new.rest.now
      c.loop-count.invariant.encodings (c.in-Ok-true.ensures.added c.in-Ok-true.field-0-test);
  options = c.add_next.ensures.options c.loop-count.invariant.options;
  long =
      let (message, is_found, same) = c.in-Ok-true.ensures.added c.in-Ok-true.field-0-test in
      omega (
        arith,
        moves_on c.args.padding c.args.format c.args.options.traversal_limit_in_words message c.loop-count.rest.now c.add_next.new.rest.now is_found,
        c.loop-count.invariant.long,
      );
  at = refl;
}

pub returns-in-Ok-false : goal.returns-in-Ok-false
returns-in-Ok-false c =
    let ended = c.in-Ok-false.ensures.ended c.in-Ok-false.field-0-test in
    let finish = reading_ended c.args.padding c.args.format c.args.options.traversal_limit_in_words _ _ None c.args.stream.now c.loop-count.rest.now c.loop-count.end
    (ap (map (λ reader. reader.segments)) ended.1) c.loop-count.invariant.encodings c.loop-count.invariant.at (inr ended.0) in
    record { read = record { within = finish.0; encodings = finish.1; ends = finish.2; some = λ memory. cc; exact = finish.3 }; options = c.add_next.ensures.options c.loop-count.invariant.options }

pub returns-in-Err : goal.returns-in-Err
returns-in-Err c =
    let finish = reading_ended c.args.padding c.args.format c.args.options.traversal_limit_in_words _ _ (Some c.in-Err.error) c.args.stream.now c.loop-count.rest.now c.loop-count.end
    (ap (map (λ reader. reader.segments)) c.in-Err.ensures.kept) c.loop-count.invariant.encodings c.loop-count.invariant.at
    (stream_error_ends c.in-Err.error _ _ _ c.in-Err.ensures.errors) in
    let some : IsMemoryError (Some c.in-Err.error) → 0 < length c.args.stream.now = λ memory. omega (
      arith,
      c.in-Err.ensures.some (memory_kind c.in-Err.error memory),
      encodings_within (grammar_of c.args.padding c.args.format) c.args.options.traversal_limit_in_words _ c.args.stream.now c.loop-count.rest.now c.loop-count.invariant.encodings,
    ) in
    record { read = record { within = finish.0; encodings = finish.1; ends = finish.2; some = some; exact = finish.3 }; options = c.add_next.ensures.options c.loop-count.invariant.options }

pub returns : goal.returns
returns c =
    let finish = reading_ended c.args.padding c.args.format c.args.options.traversal_limit_in_words _ _ (Some c.from_kind.result) c.args.stream.now c.loop-count.rest.now c.loop-count.end
    refl c.loop-count.invariant.encodings c.loop-count.invariant.at
    (inl (ap Some c.from_kind.ensures, λ few. absurd (omega (arith, few, c.loop-count.invariant.long, c.loop-count-test.false)))) in
    record { read = record { within = finish.0; encodings = finish.1; ends = finish.2; some = λ memory. omega (arith, c.loop-count.invariant.long, c.loop-count-test.false); exact = finish.3 }; options = c.loop-count.invariant.options }
