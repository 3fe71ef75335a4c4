-- The lemmas.
pub mod ElementContainingPointerWordLemmas
pub mod FarPointerLandingPadSizeLemmas
pub mod JoinedAddedStringsLemmas
pub mod ReadsExtendInputFrontLemmas
pub mod UnescapedRunLemmas
