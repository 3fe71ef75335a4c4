-- What composed values are.
pub mod Measured
pub mod Fields
pub mod FieldLaws
pub mod Structs
pub mod DataSections
pub mod Lists
pub mod StructLists
pub mod StructListPlaces
pub mod NumberLists
pub mod Sources
