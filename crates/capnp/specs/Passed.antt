-- Definitions of the crates below, for callers that depend on this crate alone.
pub use Rattle.capnp_frame.specs.declared.error.Error.{Error}
pub use Rattle.capnp_frame.specs.declared.error.ErrorKind.{ErrorKind}
pub use Rattle.capnp_frame.specs.declared.error.ErrorKind.TheVariants.{DeviceFailed, OutOfMemory}
pub use Rattle.capnp_frame.specs.declared.serialize.segment_table.Padding.{Padding}
pub use Rattle.capnp_frame.specs.declared.serialize.segment_table.Padding.TheVariants.{Any, Zero}
pub use Rattle.capnp_frame.specs.Prelude.{IsWithin, default_limit, IsWholeWords, word_count, lengths, size_in_words, kind_number, IsReaderKind, FitsField, Giving, Refusing, Splits, RunsShort, IsSource, IsPreorder, IfKnown, IsFront, RequestError, ReturnsPart, Advances, Fails, Fills, splitting, always, SkipsMessage, ReadsStream, Appending, AppendsSame, Leaving, LeavesNothing, LeavesFront, Declining, ChunksError, Adds, AppendsAll, Grows, IsWritable, chunks}
pub use Rattle.capnp_layout.specs.Prelude.{message_of, root}
pub use Rattle.capnp_wire.specs.Prelude.{default_root, Pointer}
pub use Rattle.capnp_message.specs.Canonical.{CanonicalFormError}
