-- Objects that are read in place, from C.
pub mod SegmentsByGroupLemmas
pub mod OpenedReaderLemmas
pub mod SegmentByteRangeLemmas
pub mod ObjectAfterLandingPadLemmas
pub mod FollowedPointerResultLemmas
pub mod EnteredObjectReadLemmas
pub mod ListElementsInBytesLemmas
pub mod StructElementByIndexLemmas
pub mod ListReadAsStructsLemmas
pub mod NumbersReadAsStructsLemmas
pub mod ListReadAsNumbersOrPointersLemmas
pub mod ListByElementKindLemmas
