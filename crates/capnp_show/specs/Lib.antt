-- The definitions that contracts cite, by subject.
pub mod Output
pub mod Hashes
pub mod Fronts
pub mod Objects
pub mod NodeRuns
pub mod Words
pub mod Arguments
pub mod ErrorLines
pub mod Arrows
pub mod Plain
pub mod Shown
