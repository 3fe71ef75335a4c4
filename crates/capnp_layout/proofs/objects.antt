-- Objects, and what is in them.
pub mod UniqueObjectLemmas
pub mod CycleExcludesTreeLemmas
pub mod ByteListElementLemmas
pub mod SectionWordByIndexLemmas
pub mod StructElementPlaceLemmas
pub mod NumberElementsInListWordsLemmas
pub mod CopiedDataWithinSegmentLemmas
pub mod CopiedListLastWordMaskedLemmas
pub mod ReadObjectSizeFromShapeLemmas
pub mod ListPaddingTestLemmas
pub mod SingleSegmentObjectPlaceLemmas
pub mod ReadStructSizesAndWordsBoundedLemmas
pub mod NumberAsOneWordStructLemmas
