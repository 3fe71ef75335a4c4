-- Framed encodings: the requests of a message, and the messages of a stream.
pub mod MessageFoundByRequestsLemmas
pub mod PlainRequestsTakeFrameLemmas
pub mod UniqueDivisionIntoEncodingsLemmas
pub mod WrittenFrameSizeAndChunksLemmas
pub mod DeclaredMessageIsFrontFrameLemmas
