-- The chunks, joined, are the frame, and with few segments it always fits.
use Rattle.std.proofs.Common.{inl, inr, arith}
use Rattle.std.proofs.lemmas.Result.{err_from_is_err_and}
use Rattle.capnp_frame.proofs.encodings.WrittenFrameSizeAndChunksLemmas.{written_frame, vector_memory_alone, few_fit}
use Rattle.capnp_frame.proofs.sinks.ChunkWritesUntilFailureLemmas.{count_kept}
use Rattle.capnp_frame.proofs.serialize.writing.segments_to_words.Goals as goal

pub returns-in_err-check_count : goal.returns-in_err-check_count
returns-in_err-check_count g c =
    let p = err_from_is_err_and c.from_residual.result c.from_residual.ensures.1 in
    let reported = c.in_err-check_count.ensures in
    rw (p.1, p.2) (record { encoding = tt; count = record { few = tt; many = reported.count.many }; kinds = inl reported.errors })

pub returns-in_err-words : goal.returns-in_err-words
returns-in_err-words g c =
    let over = c.in_err-words.ensures.overflow.0 c.in_err-words.ensures.kinds in
    let fits = few_fit _ c.requires c.in_ok-check_count.ensures.count.few in
    absurd (omega arith)

pub overflow_mul-words : goal.overflow_mul-words
overflow_mul-words g c =
    let words = c.in_ok-words.ensures.size in
    let fits = few_fit _ c.requires c.in_ok-check_count.ensures.count.few in
    omega arith

pub returns-in_err-encoding : goal.returns-in_err-encoding
returns-in_err-encoding g c =
    let p = err_from_is_err_and c.from_residual-in_err-encoding.result c.from_residual-in_err-encoding.ensures.1 in
    rw p.1 (record { encoding = tt; count = count_kept _ _ c.in_ok-check_count.ensures.count.few; kinds = inr p.2 })

pub returns-in_err-write_segments : goal.returns-in_err-write_segments
returns-in_err-write_segments g c =
    let segments = g.S.ReaderSegments.segments c.args.segments.now in
    let p = err_from_is_err_and c.from_residual-in_err-write_segments.result c.from_residual-in_err-write_segments.ensures.1 in
    let reported = c.in_err-write_segments.ensures.parts in
    rw (p.1, p.2) (record { encoding = tt; count = count_kept _ _ c.in_ok-check_count.ensures.count.few; kinds = vector_memory_alone segments _ reported.failed reported.errors })

pub returns : goal.returns
returns g c =
    let encoding = written_frame (g.S.ReaderSegments.segments c.args.segments.now) c.in_ok-encoding.encoding.items c.write_segments.new.sink.items
    c.in_ok-encoding.ensures.items c.in_ok-write_segments.ensures.parts.written in
    record { encoding = encoding; count = count_kept _ _ c.in_ok-check_count.ensures.count.few; kinds = tt }
