-- The numbers of the kinds of errors, as they are listed (docs/FORMAT.md, "Errors").
use Rattle.std.specs.Prelude.{ℕ}
use Rattle.capnp_frame.specs.declared.error.ErrorKind.{ErrorKind}
use Rattle.capnp_frame.specs.declared.error.ErrorKind.TheVariants.{FailedToFillTheWholeBuffer, BufferNotLargeEnough, EmptyBuffer, EmptySlice}
use Rattle.capnp_frame.specs.declared.error.ErrorKind.TheVariants.{InvalidNumberOfSegments, MessageEndsPrematurely, MessageSizeOverflow}
use Rattle.capnp_frame.specs.declared.error.ErrorKind.TheVariants.{MessageTooLarge, PrematureEndOfFile, PrematureEndOfPackedInput}
use Rattle.capnp_frame.specs.declared.error.ErrorKind.TheVariants.{PackedInputDidNotEndCleanlyOnASegmentBoundary, OutOfMemory, DeviceFailed}
use Rattle.capnp_frame.specs.declared.error.ErrorKind.TheVariants.{NotWholeWords, AllocationTooLarge, SegmentTaken, PointerOutOfBounds}
use Rattle.capnp_frame.specs.declared.error.ErrorKind.TheVariants.{InvalidSegmentId, NestingLimitExceeded, ReadLimitExceeded, CapabilityRefused}
use Rattle.capnp_frame.specs.declared.error.ErrorKind.TheVariants.{WrongPointerKind, TextNotTerminated, CanonicalTooLarge, NotOneSegment, NonZeroPadding}

abbrev pub kind_number : ErrorKind → ℕ
kind_number FailedToFillTheWholeBuffer = 1
kind_number BufferNotLargeEnough = 2
kind_number EmptyBuffer = 3
kind_number EmptySlice = 4
kind_number (InvalidNumberOfSegments count) = 5
kind_number (MessageEndsPrematurely wanted there) = 6
kind_number MessageSizeOverflow = 7
kind_number (MessageTooLarge words) = 8
kind_number PrematureEndOfFile = 9
kind_number PrematureEndOfPackedInput = 10
kind_number PackedInputDidNotEndCleanlyOnASegmentBoundary = 11
kind_number OutOfMemory = 12
kind_number DeviceFailed = 13
kind_number NotWholeWords = 14
kind_number (AllocationTooLarge words) = 15
kind_number SegmentTaken = 16
kind_number PointerOutOfBounds = 17
kind_number (InvalidSegmentId segment) = 18
kind_number NestingLimitExceeded = 19
kind_number ReadLimitExceeded = 20
kind_number CapabilityRefused = 21
kind_number WrongPointerKind = 22
kind_number TextNotTerminated = 23
kind_number CanonicalTooLarge = 24
kind_number NotOneSegment = 25
kind_number NonZeroPadding = 26
