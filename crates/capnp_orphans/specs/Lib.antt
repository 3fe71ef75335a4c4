-- What is in a segment that is built from the bottom up.
pub mod Orphans
pub mod Segments
pub mod Holds
pub mod Adding
pub mod Copied
pub mod Regions
pub mod Sized
pub mod OrphanLaws
