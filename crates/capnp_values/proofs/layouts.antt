-- Layouts: objects whose words are put into a block, and whose pointers are filled in.
pub mod ObjectFillLemmas
pub mod ElementwiseFillSameBlockLemmas
