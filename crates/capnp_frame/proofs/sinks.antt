-- Sinks, and what is written to them.
pub mod WritableSegmentBySegmentLemmas
pub mod JoinedChunkListLemmas
pub mod TableFilledFieldByFieldLemmas
pub mod GrantedChunkLemmas
pub mod ChunkWritesUntilFailureLemmas
