-- The definitions that proofs and other crates cite, passed on from one place. Declares nothing.
pub use Rattle.capnp.specs.Appended.{ReadsMessages}
pub use Rattle.capnp.specs.Canonical.{AppendsForm, FormSinkError, WrittenFormError, IsForm, LeavesForm}
pub use Rattle.capnp.specs.Devices.{IsOutOfMemory, if_known, pending, taken_so_far, unread_of}
pub use Rattle.capnp.specs.Headline.{ExternalError, MessageRules, OrFailsAtEnd, ReadsMessage, ReadsMessageInto, ReturnsEncodings, by_format, framed, framed_reusing, packed, packed_reusing, reader_of}
pub use Rattle.capnp.specs.MessageStreams.{GivesMessage, HasSettings, IsNewStream, messages_left, read_in, source_of}
pub use Rattle.capnp.specs.Passed.{Adds, Advances, Any, Appending, Declining, DeviceFailed, Error, ErrorKind, Fails, Grows, IfKnown, IsWithin, CanonicalFormError, LeavesFront, Leaving, OutOfMemory, Padding, Pointer, ReadsStream, ReturnsPart, RunsShort, SkipsMessage, Splits, Zero, always, default_limit, default_root, kind_number, lengths, message_of, size_in_words, splitting, word_count}
pub use Rattle.capnp.specs.Printed.{AreEscaped, IsByteEscape, IsEscapeOf, escaped, none_shown, one_shown}
pub use Rattle.capnp.specs.Reading.{EndsReading, IsCut, IsCutKind, IsMemoryError, TakesForListed, kind_of}
pub use Rattle.capnp.specs.RecordLog.{IsCutLog, IsLog}
pub use Rattle.capnp.specs.Roots.{HasRootTree}
pub use Rattle.capnp.specs.Runs.{FailsWithinOr, WritingErrors, WritingErrorAt, HasRun, HasFailed, HasWritten, HasWrittenNext, FailsByRun, ReadingError, IsResultOf, RunError, WritingError, RanOut, FailedReading, FailedWriting, RunErrorOf, WritesAll, WritesEach, WritesFrom, Writing, most_messages}
pub use Rattle.capnp.specs.Streams.{BeginsFramed, BeginsPacked, EndsBy, IsPlainSource, IsStream, NextError, FoundNext, TakesForNext, gives_of, grammar_of, refuses_of, rules_of, skipping_rules_of}
pub use Rattle.capnp.specs.Transcoding.{TranscodedErrors, IsOtherEncoding, Transcodes, input_of}
pub use Rattle.capnp.specs.Written.{AppendsEach, AppendsMessage, ErrorsAs, IsFrameEncoding, IsPackedEncodingOf, IsPlainSink, IsEncodingOf, LeavesMessage, SegmentCountErrorIn, OneOfError, WriterError, FailsAmong, FailsAtMessage, WritesMessage, output_of}
