-- Lists of structs.
pub mod ElementTreesOutputWordsLemmas
pub mod ElementWriteLemmas
pub mod StructListMeasureLemmas
pub mod StructListWriteLemmas
pub mod ElementMeasureLemmas
pub mod CanonicalElementSizeLemmas
