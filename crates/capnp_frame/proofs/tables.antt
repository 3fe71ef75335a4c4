-- Segment tables: their fields, what they cut, and the padding after them.
pub mod PartsCutAtRunningSumsLemmas
pub mod UniqueTableLengthsLemmas
pub mod AcceptedTablePaddingLemmas
pub mod ErrorAfterTableLemmas
pub mod TableDeclaredByFieldsLemmas
pub mod TableFromTwoRequestsLemmas
pub mod SegmentRangeLemmas
