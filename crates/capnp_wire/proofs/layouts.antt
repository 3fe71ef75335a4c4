-- Layouts: trees that are copied into a block, and read back.
pub mod LayoutReadBackLemmas
pub mod BlockWriteOrderLemmas
pub mod TreeCopySequenceLemmas
pub mod LayoutByFillingPointerSlotsLemmas
pub mod ZeroFreePartLemmas
pub mod NullAndNumbersWrittenLemmas
pub mod DataWriteKeepsPointerSlotsLemmas
pub mod CopyPlanFillsLayoutLemmas
pub mod ReadObjectHasCopyPlanLemmas
pub mod DataSectionWriteSequenceLemmas
pub mod CopyBeginsWithOwnWordsLemmas
pub mod NumbersCopiedPointerListBegunLemmas
pub mod ObjectAtNextWordLaidOutLemmas
pub mod LayoutPointerPlacesObjectLemmas
pub mod LocalObjectLaidOutTestLemmas
pub mod PreorderWhereLaidInSlotsLemmas
