-- Objects, and what is in them.
pub mod NumberElementReadLemmas
pub mod NumbersPaddedByLastWordLemmas
pub mod NumberAsStructLemmas
