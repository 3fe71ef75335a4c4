-- The definitions that proofs and other crates cite, passed on from one place. Declares nothing.
pub use Rattle.capnp_frame.specs.Asking.{Asked, FailsOr}
pub use Rattle.capnp_frame.specs.FlatReaders.{AcceptsFlat, FlatRules, Leaves, OrOutOfMemory, ReadsFlat, RulesError, FoundBy, no_alloc_rules, slice_rules}
pub use Rattle.capnp_frame.specs.FlatErrors.{AcceptsSeveral, CutsSegments, FlatForm, FlatCountError, FlatError, LengthsError, by_fields, by_words, count_end, count_of, cut_kind, empty_kind, lengths_end}
pub use Rattle.capnp_frame.specs.Frame.{IsFrame, frame_bytes}
pub use Rattle.capnp_frame.specs.FramedInto.{ReadsFramedInto}
pub use Rattle.capnp_frame.specs.Front.{DeclaresTable, HasFrame, HaveSameNumbers, HoldsMessage, IsDescribed, SpellsLengths, declared_lengths, declared_padding, declared_segments, number, numbers}
pub use Rattle.capnp_frame.specs.Lending.{overwritten}
pub use Rattle.capnp_frame.specs.Limits.{AreWithin, IsWithin, KeepsLimit, default_limit}
pub use Rattle.capnp_frame.specs.Message.{IsWholeWords, lengths, size_in_words, word_count}
pub use Rattle.capnp_frame.specs.Numbers.{kind_number}
pub use Rattle.capnp_frame.specs.StreamErrors.{Asks, RejectsPadding, CountFound, DeclaresAccepted, IsOutOfRange, IsProvidedReaderKind, IsReaderKind, IsTableKind, IsTooLarge, IsTooShort, Outgrows, CountError, LimitError, StartError, RestError, StreamError, TableError, FailsLeaving, TakesForLengths, TakesMemory, DeclaresCount, Unless}
pub use Rattle.capnp_frame.specs.Requests.{MessageFound, RestFound, TableFound}
pub use Rattle.capnp_frame.specs.SegmentLengths.{AreRanges, cut, range_len, ranges, ranges_from}
pub use Rattle.capnp_frame.specs.SegmentTable.{FitsField, HasTable, IsTable, KeepsPadding, table_field, padding_len, table_bytes, table_size, zero_padded_table}
pub use Rattle.capnp_frame.specs.Sink.{Adds, Appending, AppendsAll, AppendsSame, ByKind, AnyChunkError, ChunksError, Declining, Grows, LeavesFront, LeavesNothing, LeavesSome, Leaving}
pub use Rattle.capnp_frame.specs.Skipping.{Drops, LengthsFound, SkipsMessage}
pub use Rattle.capnp_frame.specs.Source.{Advances, Fails, Fills, Giving, IfKnown, IsFront, IsPlain, IsPreorder, RequestError, IsSource, IsTail, Refusing, ReturnsPart, RunsShort, Splits}
pub use Rattle.capnp_frame.specs.SplittingLaws.{always, same_front, splitting}
pub use Rattle.capnp_frame.specs.Steps.{AsksNext, AsksNextInto, FindsMessageSize, FindsTable, ReadsLengths, ReadsTable, CompleteTableError, TableRestError}
pub use Rattle.capnp_frame.specs.Streams.{ReadsStream, ReadsStreamInto, StreamRules, framed_rules, next_in, reusing_rules, skipping_rules}
pub use Rattle.capnp_frame.specs.Encodings.{AreEncodings, BeginsWith, EndsEncodings, Grammar}
pub use Rattle.capnp_frame.specs.Views.{SeenBuffer}
pub use Rattle.capnp_frame.specs.Words.{bytes_of}
pub use Rattle.capnp_frame.specs.Writers.{CountsWords, KeepsCount, NoError, TableMemoryError, UnwrittenError, ReturnsEncoding, TakesGranted, WritesChunks, WritesSegments, WritesTo}
pub use Rattle.capnp_frame.specs.Writing.{IsPastSegmentLimit, IsWithinSegmentLimit, IsWritable, SegmentCountError, chunks, serialized_words, table_chunks, word_and_rest}
