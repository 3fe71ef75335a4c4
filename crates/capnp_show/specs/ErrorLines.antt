-- What is said of errors (`src/errors.rt`).
use Rattle.std.specs.Prelude.{ℕ, List, [], ◌++◌, codes}
use Rattle.capnp.specs.Prelude.{ErrorKind}
use Rattle.capnp_frame.specs.declared.error.ErrorKind.TheVariants.{FailedToFillTheWholeBuffer, BufferNotLargeEnough, EmptyBuffer, EmptySlice, InvalidNumberOfSegments, MessageEndsPrematurely, MessageSizeOverflow, MessageTooLarge, PrematureEndOfFile, PrematureEndOfPackedInput, PackedInputDidNotEndCleanlyOnASegmentBoundary, OutOfMemory, DeviceFailed, NotWholeWords, AllocationTooLarge, SegmentTaken, PointerOutOfBounds, InvalidSegmentId, NestingLimitExceeded, ReadLimitExceeded, CapabilityRefused, WrongPointerKind, TextNotTerminated, CanonicalTooLarge, NotOneSegment, NonZeroPadding}
use Rattle.capnp_show.specs.Output.{AddsEscaped}

-- what is said of an error of this kind, in one sentence
abbrev pub sentence_of : ErrorKind → List ℕ
sentence_of FailedToFillTheWholeBuffer = codes "the input ends within a message"
sentence_of BufferNotLargeEnough = codes "a buffer is too short for what was to be put there"
sentence_of EmptyBuffer = codes "a buffer that was to hold a message is empty"
sentence_of EmptySlice = codes "the bytes that were to begin with a message are none"
sentence_of (InvalidNumberOfSegments number) = codes "the segment table has a number of segments that is not from 1 to 511"
sentence_of (MessageEndsPrematurely wanted there) = codes "the input ends before the message does"
sentence_of MessageSizeOverflow = codes "the size of the message does not fit 64 bits"
sentence_of (MessageTooLarge words) = codes "the message has more words than --words allows"
sentence_of PrematureEndOfFile = codes "the input ends where a message was to begin"
sentence_of PrematureEndOfPackedInput = codes "the packed input ends within a message"
sentence_of PackedInputDidNotEndCleanlyOnASegmentBoundary = codes "a run of packed words goes past the end of the segments"
sentence_of OutOfMemory = codes "there is not enough memory"
sentence_of DeviceFailed = codes "the input can't be read"
sentence_of NotWholeWords = codes "what was to be packed or unpacked is no whole number of words"
sentence_of (AllocationTooLarge words) = codes "an object is larger than a segment may be"
sentence_of SegmentTaken = codes "the only segment is in use"
sentence_of PointerOutOfBounds = codes "a pointer leads outside of its segment"
sentence_of (InvalidSegmentId id) = codes "a pointer leads to a segment that is not there"
sentence_of NestingLimitExceeded = codes "objects are nested deeper than --nesting allows"
sentence_of ReadLimitExceeded = codes "the objects have more words than --words allows"
sentence_of CapabilityRefused = codes "a pointer leads to a capability"
sentence_of WrongPointerKind = codes "a pointer leads to another kind of object"
sentence_of TextNotTerminated = codes "a text has no zero byte at its end"
sentence_of CanonicalTooLarge = codes "the canonical form is larger than a segment may be"
sentence_of NotOneSegment = codes "the message has more than one segment"
sentence_of NonZeroPadding = codes "the padding of the segment table is not zero"

-- and what is said where the output is not written
abbrev pub unwritten_of : ErrorKind → List ℕ
unwritten_of DeviceFailed = codes "standard output can't be written"
unwritten_of kind = sentence_of kind

-- the line gives a reason why the input of this name failed; the wording of the reason is left open
abbrev pub IsInputErrorLine : List ℕ → List ℕ → Type 0
IsInputErrorLine name line = (reason : List ℕ) × AddsEscaped (codes "capnp_show: ") name (codes ": " ++ (reason ++ codes "\n")) [] line
