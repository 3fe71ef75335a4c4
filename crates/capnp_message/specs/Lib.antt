pub mod Seen
pub mod Canonical
pub mod Next
pub mod Region
pub mod Scratch
pub mod Roots
pub mod Heaps
