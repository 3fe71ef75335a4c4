-- The lemmas.
pub mod CanonicalFormDeterminedByRootTreeLemmas
