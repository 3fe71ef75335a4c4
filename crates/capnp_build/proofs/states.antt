-- Segments in order, and what stays where one of them is written.
pub mod OutSegmentListChangesLemmas
pub mod SegmentSizesAfterChangeLemmas
pub mod StayingBytesLemmas
pub mod WholeWordSegmentLemmas
