-- Layouts: trees that are copied into a block, and read back.
pub mod LayoutSizeLemmas
pub mod ObjectReadBackLemmas
pub mod LayoutReadBackLemmas
pub mod PutWordsCombinedLemmas
