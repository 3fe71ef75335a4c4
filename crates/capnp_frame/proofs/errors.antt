-- The error table, and which line of it each part of a reader meets.
pub mod UniqueErrorLineLemmas
pub mod ReaderErrorLineLemmas
