-- Groups that are taken from the front of the bytes, and what is unpacked or skipped.
pub mod GroupIsRequestPartLemmas
pub mod MarkedWordAndRunAreGroupLemmas
pub mod ShownGroupsUnpackToBufferLemmas
pub mod LiteralRunReadLemmas
pub mod TakenGroupsUnpackedByteCountLemmas
pub mod SkippedGroupSizeLemmas
pub mod SkipOutcomeIsRequestOutcomeLemmas
pub mod ShownBytesAreFrontOfSliceLemmas
pub mod UnpackerOutcomeFromSourceCallLemmas
pub mod SingleWordGroupsExtendUnpackedLemmas
