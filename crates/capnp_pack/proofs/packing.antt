-- The encoding that a packer makes, and what it hands on to a sink.
pub mod LeftAfterFailureLemmas
pub mod GrantCoversGroupAndRestLemmas
pub mod UniqueGroupByTagLemmas
pub mod WordsPackUniquelyAndUnpackLemmas
pub mod SizeBoundLemmas
pub mod HandedAndBufferedBytesJoinLemmas
pub mod ChunkPackedGroupByGroupLemmas
pub mod BufferedGroupLemmas
pub mod PackerOutcomeFromSinkCallLemmas
