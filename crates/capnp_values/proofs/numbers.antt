-- Numbers: the fields of data sections, and lists.
pub mod NumberWordWriteLemmas
pub mod NumberListAsWordsLemmas
pub mod DataFieldSetLemmas
