-- What the callers return.
pub mod AccountLists
pub mod Appended
pub mod Devices
pub mod Reading
pub mod Regions
pub mod Roots
pub mod Streaming
pub mod People
pub mod AnyNumbers
