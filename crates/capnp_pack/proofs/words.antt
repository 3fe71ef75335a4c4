-- Words, the bytes that a tag marks, and how far runs go.
pub mod EachElementLemmas
pub mod MarkedByteReadLemmas
pub mod ChunkWordLemmas
pub mod ZeroMaskLemmas
pub mod NonzeroByteTagLemmas
pub mod LeadingZeroWordsByMaskLemmas
pub mod UniqueRunLengthLemmas
