-- What a reader returns that puts the framed encoding of a message into a caller-provided buffer (src/serialize/framed.rt).
use Rattle.std.specs.Prelude.{ℕ, ◌+◌, ◌≤◌, List, length, drop, Option, Result, IfOk, IfSome}
use Rattle.capnp_frame.specs.declared.error.Error.{Error}
use Rattle.capnp_frame.specs.declared.serialize.segment_table.Padding.TheVariants.{Zero}
use Rattle.capnp_frame.specs.declared.serialize.segment_table_info.NoAllocSegmentTableInfo.{NoAllocSegmentTableInfo}
use Rattle.capnp_frame.specs.declared.io.Read.{Ghosts}
use Rattle.capnp_frame.specs.Front.{HasFrame, declared_segments}
use Rattle.capnp_frame.specs.Streams.{StreamRules, next_in, ReadsStreamInto}

-- `before` and `after` are the buffer's bytes before the call and after it.
pub record ReadsFramedInto {S : Type 0} (source : Ghosts S) (old new : S) (rules : StreamRules) (limit : Option ℕ) (before after : List ℕ)
    (result : Result (Option NoAllocSegmentTableInfo) Error) : Type 0 where
  -- it reads as one that returns the segments in the buffer
  pub reads : ReadsStreamInto source old new rules limit (length before) (next_in (λ info. declared_segments info.segments_count after) result)
  -- the buffer begins with the framed encoding that a writer writes
  pub encoding : IfOk result (λ found. IfSome found (λ info. HasFrame Zero after (declared_segments info.segments_count after)
      (drop (info.segment_table_length_bytes + info.total_segments_length_bytes) after)))
  pub room : IfOk result (λ found. IfSome found (λ info. info.segment_table_length_bytes + info.total_segments_length_bytes ≤ length after))
