-- Structs: their data words, and their pointer fields.
pub mod KeptPointerCountLemmas
pub mod FieldWriteLemmas
pub mod StructMeasureLemmas
pub mod DataWordWriteLemmas
