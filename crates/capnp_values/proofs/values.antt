-- Values as parts of others: their trees, and the words that are measured of these.
pub mod ValueAsPartWordsLemmas
pub mod MeasureOutcomeIsUniqueLemmas
pub mod NullValueLemmas
pub mod EqualWordsIfUntrimmedLemmas
pub mod MeasureWithinBoundElseErrorLemmas
pub mod LazyValueAsDeclaredLemmas
