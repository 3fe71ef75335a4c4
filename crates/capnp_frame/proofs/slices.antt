-- Readers of slices and buffers.
pub mod FlatErrorLemmas
pub mod SliceOutcomeAfterTableReadLemmas
pub mod UniqueTableInfoOfMessageLemmas
pub mod FlatReaderOutcomeLemmas
pub mod ZeroingPaddingKeepsMessageLemmas
pub mod SliceReadersRejectSameBytesLemmas
