-- The lemmas, in a room for each subject.
pub mod values
pub mod structs
pub mod lists
pub mod struct_lists
pub mod numbers
pub mod layouts
