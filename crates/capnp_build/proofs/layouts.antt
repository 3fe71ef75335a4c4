-- Layouts: trees in a block, and the root's pointer to it.
pub mod LaidTreeReadAtRootLemmas
pub mod RootPointerToBodyLemmas
pub mod RootIsValueLemmas
pub mod ZeroBlockIsNewObjectLemmas
