-- Tables with an entry for each tag: the places and the order of a word's bytes.
pub mod TagTableLemmas
pub mod ExpandShuffleLemmas
pub mod CompactShuffleLemmas
pub mod StoredLanesPackOrSpreadLemmas
pub mod GroupSizeLemmas
