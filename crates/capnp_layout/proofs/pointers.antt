-- Pointers, what they point to, and when they are invalid.
pub mod ErrorExcludesObjectLemmas
pub mod UniquePointerErrorLemmas
pub mod ObjectFitOrErrorLemmas
pub mod LandingPadTargetsAndErrorsLemmas
pub mod LocalObjectIsAtLemmas
pub mod NullRunReadAndCopiedLemmas
pub mod EmptyStructAtItsPointerLemmas
pub mod KeptPointerPlacesBySectionLemmas
pub mod PointerWordFieldLemmas
pub mod LayoutSlotPointersAndPlacesLemmas
pub mod PointerWordFromPartsLemmas
pub mod LocalPointerTargetLemmas
pub mod ErrorExcludesTreeLemmas
