-- What is at the root, and what a type makes of it.
pub mod NoSegmentRootLemmas
pub mod NullRootTreeLemmas
pub mod RootZeroingLemmas
pub mod RootObjectFromBodyBytesLemmas
pub mod RootBlockIsTreeBytesLemmas
