-- Both ways of transcoding (src/transcoding.rt).
use Rattle.std.specs.Prelude.{ℕ, ◌≤◌, length, Option, Result}
use Rattle.capnp_frame.specs.declared.error.Error.{Error}
use Rattle.capnp_frame.specs.declared.io.Read.{Ghosts}
use Rattle.capnp_frame.specs.declared.io.Write.{Ghosts as SinkGhosts}
use Rattle.capnp_frame.specs.declared.serialize.segment_table.Padding.{Padding}
use Rattle.capnp_frame.specs.Prelude.{Appending, Leaving, Declining, ChunksError, chunks}
use Rattle.capnp.specs.declared.streams.Format.{Format}
use Rattle.capnp.specs.declared.streams.Format.TheVariants.{Framed, Packed}
use Rattle.capnp.specs.declared.transcoding.Way.{Way}
use Rattle.capnp.specs.declared.transcoding.Way.TheVariants.{Pack, Unpack}
use Rattle.capnp.specs.Written.{IsPlainSink, IsFrameEncoding, IsPackedEncodingOf, AppendsMessage, LeavesMessage, ErrorsAs}
use Rattle.capnp.specs.Runs.{Writing, WritingErrors, WritesEach, WithoutCount}

-- the format that is read
abbrev pub input_of : Way → Format
input_of Pack = Framed
input_of Unpack = Packed

-- and the one that is written
abbrev pub output_of_way : Way → Format
output_of_way Pack = Packed
output_of_way Unpack = Framed

-- What a sink adds for a message: its chunks, packed or plain.
abbrev pub Transcodes : Way → Appending → Writing
Transcodes way appends index message encoding = AppendsMessage (output_of_way way) appends message encoding

-- and how writing it may fail: the sink fails for a chunk, or, from four segments on, an allocation fails for
-- the table
abbrev pub TranscodedErrors : Way → Appending → Leaving → Declining → WritingErrors
TranscodedErrors way appends leaves refuses = record {
  message_error = λ index message kind. ⊥;
  sink_error = λ index message. ChunksError (ErrorsAs (output_of_way way) refuses) (chunks message);
  takes_memory = λ index message. 4 ≤ length message;
  leaves = λ index message. LeavesMessage (output_of_way way) appends leaves message;
}

-- the encoding of a message in the other format
abbrev pub IsOtherEncoding : Way → Writing
IsOtherEncoding Pack index message encoding = IsPackedEncodingOf message encoding
IsOtherEncoding Unpack index message encoding = IsFrameEncoding message encoding

-- What a call does that writes each message of a stream, by this rule of padding, in the other
-- format. `source` and `sink` are what is seen of them (the members of the traits Read and Write);
-- the source is `old` before the call and `new` after it, the sink `before` and `after`.
pub record TranscodesEach {S T : Type 0} (source : Ghosts S) (old new : S) (sink : SinkGhosts T) (before after : T)
    (rule : Padding) (way : Way) (limit : Option ℕ) (result : Result (Unit {0}) Error) : Type 0 where
  -- a plain sink gets the encodings in the other format
  pub encodings : IsPlainSink sink.appends → WithoutCount (WritesEach source old new sink before after rule (input_of way) limit
      (IsOtherEncoding way) (TranscodedErrors way sink.appends sink.leaves sink.refuses)) result
  -- every sink gets what the chunks of the messages add
  pub runs : WithoutCount (WritesEach source old new sink before after rule (input_of way) limit
      (Transcodes way sink.appends) (TranscodedErrors way sink.appends sink.leaves sink.refuses)) result
