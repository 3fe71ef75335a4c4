-- The lemmas, by subject.
pub mod MissingRootWordErrorLemmas
pub mod CanonicalFormOrErrorLemmas
pub mod IdempotentCanonicalFormLemmas
pub mod ReturnedRegionLemmas
