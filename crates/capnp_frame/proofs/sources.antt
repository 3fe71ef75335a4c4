-- Sources, and what readers of streams return, step by step.
pub mod JoinedRequestPartsLemmas
pub mod JoinedCallsAdvanceSourceLemmas
pub mod JoinedReaderStepOutcomesLemmas
pub mod KeptMemorySufficesLemmas
pub mod AllocatingReaderOutcomeLemmas
pub mod SkippingReaderOutcomeLemmas
pub mod ProvidedBufferReaderOutcomeLemmas
