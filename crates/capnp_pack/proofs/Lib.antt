-- The lemmas, in a room for each subject.
pub mod words
pub mod tables
pub mod unpacking
pub mod errors
pub mod packing
pub mod encodings
pub mod WorkedCases
