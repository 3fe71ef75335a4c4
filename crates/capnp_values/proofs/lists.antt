-- Lists of pointers.
pub mod ItemMeasureLemmas
pub mod ItemWriteLemmas
pub mod PointerListMeasureLemmas
