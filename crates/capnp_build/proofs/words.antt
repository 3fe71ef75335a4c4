-- Used bytes and words of a segment, and those that are written.
pub mod UsedBytesThenZerosLemmas
pub mod PartAndWriteAsWordsLemmas
pub mod SegmentWriteKeepsEarlierWordsLemmas
pub mod WrittenPartIsValueBlockLemmas
