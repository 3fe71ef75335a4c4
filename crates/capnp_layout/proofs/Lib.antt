-- The lemmas, in a room for each subject.
pub mod words
pub mod pointers
pub mod objects
pub mod trees
pub mod layouts
