-- Writes into the object at the root.
pub mod RootDataWordLemmas
pub mod RewrittenRootBodyTreeLemmas
pub mod RootObjectWriteLemmas
