-- Trees of objects, trimmed and narrowed.
pub mod JoinedTreesSizeLemmas
