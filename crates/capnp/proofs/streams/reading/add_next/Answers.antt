-- A slice's reader fails when out of memory, or as the stream ends; a message that is read has bytes.
use Rattle.std.proofs.Common.{inl, inr, Some, map, ap, ◌∙◌}
use Rattle.std.proofs.lemmas.List.{map_push}
use Rattle.std.proofs.lemmas.Result.{err_from_is_err_and}
use Rattle.capnp.proofs.ReaderOutcomeByFormatRulesLemmas.{found_next}
use Rattle.capnp.proofs.SliceStreamReadToItsEndLemmas.{slice_reader_error, memory_at_bytes, found_in_bytes}
use Rattle.capnp.proofs.streams.reading.add_next.Goals as goal

pub returns-in_err-message-clause-errors : goal.returns-in_err-message-clause-errors
returns-in_err-message-clause-errors c =
    let p = err_from_is_err_and c.from_residual.result c.from_residual.ensures.1 in
    let reads = c.in_err-message.ensures.reads in
    rw (p.1, p.2) (elim (slice_reader_error c.args.padding c.args.format c.args.options.traversal_limit_in_words _ _ _ reads.failed reads.errors) [
      | inl memory ↦ inl (memory.0, inl memory.1)
      | inr ends ↦ inr ends
    ])

pub returns-in_err-message-clause-some : goal.returns-in_err-message-clause-some
returns-in_err-message-clause-some c =
    let p = err_from_is_err_and c.from_residual.result c.from_residual.ensures.1 in
    rw (p.1, p.2) (memory_at_bytes c.args.rest.now.now c.in_err-message.field-0.0.kind c.in_err-message.ensures.reads.end)

pub returns-in_err-push-in-Some-clause-some : goal.returns-in_err-push-in-Some-clause-some
returns-in_err-push-in-Some-clause-some c =
    let p = err_from_is_err_and c.from_residual-in_err-push-in-Some.result c.from_residual-in_err-push-in-Some.ensures.1 in
    let limit = c.args.options.traversal_limit_in_words in
    let reads = rw c.in-Some.is at c.in_ok-message.ensures.reads in
    let is_found = found_next c.args.padding c.args.format limit c.in-Some.message.segments (Some c.args.rest.now.now) (Some c.next_message.new.source.now) reads.within reads.found in
    rw p.1 (λ memory. found_in_bytes c.args.padding c.args.format limit c.in-Some.message.segments c.args.rest.now.now c.next_message.new.source.now is_found)

pub returns-in_ok-push-in-Some-clause-added : goal.returns-in_ok-push-in-Some-clause-added
returns-in_ok-push-in-Some-clause-added c = λ more.
    let limit = c.args.options.traversal_limit_in_words in
    let reads = rw c.in-Some.is at c.in_ok-message.ensures.reads in
    let is_found = found_next c.args.padding c.args.format limit c.in-Some.message.segments (Some c.args.rest.now.now) (Some c.next_message.new.source.now) reads.within reads.found in (
      c.in-Some.message.segments,
      is_found,
      ap (map (λ reader. reader.segments)) c.in_ok-push-in-Some.ensures.items ∙ map_push (λ reader. reader.segments) c.args.messages.now.items c.in-Some.message,
    )
