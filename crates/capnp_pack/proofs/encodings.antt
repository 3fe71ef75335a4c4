-- Packed encodings of messages and streams.
pub mod FoundMessageIsPackedFrameLemmas
pub mod PlainSinkEncodingLemmas
pub mod FoundPackedEncodingLemmas
pub mod PackedReaderLemmas
