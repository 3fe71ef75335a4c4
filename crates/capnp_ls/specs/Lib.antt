pub mod Commands
pub mod Flags
pub mod Output
pub mod Runs
pub mod Stop
