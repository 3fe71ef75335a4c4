-- The definitions that proofs and other crates cite, passed on from one place. Declares nothing.
pub use Rattle.capnp_pack.specs.Calls.{HandsOn, LeavesOf, TakesFrom, TakesNext}
pub use Rattle.capnp_pack.specs.Chunk.{IsChunk, encoding_of, words_of_groups}
pub use Rattle.capnp_pack.specs.Group.{AreZero, Group, IsGroup, IsWord, bytes_at, group_encoding, group_words, literal, marked, tagged, unmarked, zero_bytes, zero_word, zeros}
pub use Rattle.capnp_pack.specs.Packed.{AreLongest, IfFirst, IsLongest, Packs}
pub use Rattle.capnp_pack.specs.PackedFrame.{IsPackedEncoding, IsPackedFrame, PackedFound, table_first, table_others}
pub use Rattle.capnp_pack.specs.PackedSink.{AppendsPacked, PackedChunkError, LeavesPacked}
pub use Rattle.capnp_pack.specs.PackedSource.{GroupError, IsHeadAt, LeavesOverrun, PackedError, Overran, Overruns, ChunkError, Unpacks, group_size, head_encoding}
pub use Rattle.capnp_pack.specs.PackedStreams.{packed_reusing_rules, packed_rules, packed_skipping_rules, packed_source}
pub use Rattle.capnp_pack.specs.PackedWords.{GrantsTo, HandsTo, PacksFront, PacksTo, PacksWords, RestAfter}
pub use Rattle.capnp_pack.specs.PackedErrorLaws.{error_after, error_later, packed_apart, unpacking}
pub use Rattle.capnp_pack.specs.Steps.{CountOver, EndsGroup, ErrorAfter, FirstGroupError, GroupAfter, GroupAt, GroupFollowing, Hands, HasFewZeros, HasProgress, HeadOver, IsGroupOf, IsRun, IsZero, CutError, LeavesParts, LiteralAfter, MarkedAt, BeginsWithGroups, PassesGroups, CountedRunError, RunAt, TakesGroups, Unpacked, marked_count, nonzero, tag_of}
pub use Rattle.capnp_pack.specs.UnpackingLaws.{bit_cases, group_len, length-words, none_unpacked, not_plain, same_group, takes_no_group, true_false, unpack_nothing, unpack_once, words_len, zero_words}
