-- What callers build.
pub mod Squares
pub mod Uses
