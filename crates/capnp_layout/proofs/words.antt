-- Words, bytes and numbers.
pub mod WordsOfBytesLemmas
pub mod WordAtPlaceLemmas
pub mod DigitsToNumberAndBackLemmas
pub mod DigitByIndexLemmas
pub mod WordRunPartsInSegmentLemmas
pub mod TrailingZeroRemovalIdempotenceLemmas
pub mod PutBytesAsWordsLemmas
pub mod LengthWithoutTrailingZerosLemmas
pub mod WordsOfPaddedByteListLemmas
pub mod WholeSliceCopyLemmas
pub mod SubsliceLengthAndFirstWordLemmas
pub mod TrimmedSectionBoundLemmas
