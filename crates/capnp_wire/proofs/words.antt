-- Words, bytes and numbers.
pub mod FieldAndElementAreBitsLemmas
pub mod WordCountAdditionWithOverflowLemmas
