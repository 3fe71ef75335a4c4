-- Groups that are cut, and chunks that end inside of a group.
pub mod GroupErrorLemmas
pub mod ChunkRequestErrorLemmas
pub mod LiteralRunErrorLemmas
pub mod ConsumedAtCountOverrunLemmas
