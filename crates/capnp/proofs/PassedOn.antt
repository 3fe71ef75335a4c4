-- Lemmas of the crates below, for callers that depend on this crate alone.
pub use Rattle.capnp_frame.proofs.encodings.WrittenFrameSizeAndChunksLemmas.{sum_below}
pub use Rattle.capnp_frame.proofs.sinks.JoinedChunkListLemmas.{lengths-next, size-next}
pub use Rattle.capnp_frame.proofs.sources.JoinedRequestPartsLemmas.{IfKnown-join, Advances-join, Fails-join, Grows-join}
pub use Rattle.capnp_pack.proofs.unpacking.ShownBytesAreFrontOfSliceLemmas.{front_taken, none_shown}
