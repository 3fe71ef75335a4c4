-- What the exports do.
pub mod Options
pub mod Fronts
pub mod Packing
pub mod Exports
pub mod Sizes
pub mod Parts
pub mod Segments
pub mod Reading
pub mod Entering
pub mod ReadingExports
pub mod ReadingLists
pub mod Building
