-- The lemmas, in a room for each subject.
pub mod tables
pub mod encodings
pub mod errors
pub mod sources
pub mod slices
pub mod sinks
pub mod WorkedCases
