-- What the calls on the root keep, from what their steps keep.
pub mod FirstBlockSegmentChoiceLemmas
pub mod SetRootLemmas
pub mod CanonicalRootErrorLemmas
pub mod InitRootLemmas
pub mod BlockPrefersFirstSegmentLemmas
