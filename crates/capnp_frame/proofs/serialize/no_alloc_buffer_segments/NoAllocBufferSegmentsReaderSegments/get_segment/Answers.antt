-- The segment lies between the ends of the one before it and its own.
use Rattle.std.proofs.Common.{◌≡◌, ◌+◌, ◌*◌, ◌∙◌, length, arith, sym, ap}
use Rattle.std.specs.Prelude.{slice_get}
use Rattle.std.proofs.lemmas.Option.{slice_get_past}
use Rattle.capnp_frame.specs.Prelude.{declared_segments, HoldsMessage}
use Rattle.capnp_frame.proofs.encodings.DeclaredMessageIsFrontFrameLemmas.{length-declared_segments}
use Rattle.capnp_frame.proofs.tables.SegmentRangeLemmas.{Lies, lies_between}
use Rattle.capnp_frame.proofs.serialize.no_alloc_buffer_segments.NoAllocBufferSegmentsReaderSegments.get_segment.Given as given
use Rattle.capnp_frame.proofs.serialize.no_alloc_buffer_segments.NoAllocBufferSegmentsReaderSegments.get_segment.Goals as goal

pub returns-then-index-self : goal.returns-then-index-self
returns-then-index-self g c =
    let bytes = g.T.AsBytes.bytes c.self.inside.buffer in
    let long : length c.args.self.now.segments ≡ c.self.inside.segments_count = ap (λ h. length h.segments) (sym c.self.view_is) ∙ length-declared_segments c.self.inside.segments_count bytes in
    sym (slice_get_past c.args.self.now.segments c.args.id (omega arith))

lies : (g : given.Over) (c : goal.After-table_len-front g)
    → Lies c.as_bytes-bytes.result.now c.self.inside.segments_count c.args.id
    (c.table_len-front.result + 8 * c.place-start.result.0) (c.table_len-front.result + 8 * c.place-start.result.1)
lies g c =
    let bytes = c.as_bytes-bytes.result.now in
    let holds : HoldsMessage bytes c.self.inside.segments_count = rw c.as_bytes-bytes.ensures c.self.invariant.0 in
    lies_between bytes c.self.inside.segments_count c.args.id c.table_len-front.result c.place-start.result.0
    c.place-start.result.1 holds c.if-index-self.false c.table_len-front.ensures c.place-start.ensures.start
    c.place-start.ensures.end

pub overflow_mul-result : goal.overflow_mul-result
overflow_mul-result g c = let found = lies g c in omega arith

pub overflow_add-result : goal.overflow_add-result
overflow_add-result g c = let found = lies g c in omega arith

pub overflow_mul-result-2 : goal.overflow_mul-result-2
overflow_mul-result-2 g c = let found = lies g c in omega arith

pub overflow_add-result-2 : goal.overflow_add-result-2
overflow_add-result-2 g c = let found = lies g c in omega arith

pub slice_bounds-result-count : goal.slice_bounds-result-count
slice_bounds-result-count g c = let found = lies g c in omega arith

pub slice_bounds-result-start : goal.slice_bounds-result-start
slice_bounds-result-start g c = let found = lies g c in omega arith

pub slice_bounds-result-end : goal.slice_bounds-result-end
slice_bounds-result-end g c = let found = lies g c in omega arith

pub returns : goal.returns
returns g c =
    let bytes = c.as_bytes-bytes.result.now in
    let holds : HoldsMessage bytes c.self.inside.segments_count = rw c.as_bytes-bytes.ensures c.self.invariant.0 in
    let found = lies_between bytes c.self.inside.segments_count c.args.id c.table_len-front.result
    c.place-start.result.0 c.place-start.result.1 holds c.if-index-self.false c.table_len-front.ensures
    c.place-start.ensures.start c.place-start.ensures.end in
    let view : declared_segments c.self.inside.segments_count bytes ≡ c.args.self.now.segments = ap
    (declared_segments c.self.inside.segments_count) c.as_bytes-bytes.ensures ∙ ap (λ h. h.segments) c.self.view_is in
    sym found.part ∙ ap (λ l. slice_get l c.args.id) view
