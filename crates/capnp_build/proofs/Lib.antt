-- The lemmas, in a room for each subject.
pub mod words
pub mod states
pub mod layouts
pub mod roots
pub mod writes
pub mod outcomes
