-- Pointers, what they point to, and when they are invalid.
pub mod PointersInStructSegmentLemmas
pub mod NullWhereWordIsZeroLemmas
pub mod LayoutPointerWhereTargetNextLemmas
