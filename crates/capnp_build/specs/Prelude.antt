-- The definitions that proofs and other crates cite, passed on from one place. Declares nothing.
pub use Rattle.capnp_build.specs.Allocating.{HandsOut}
pub use Rattle.capnp_build.specs.Blocks.{IsNew, PutsBlock, ZeroesRoot}
pub use Rattle.capnp_build.specs.BuilderState.{AreOut, BuilderState, KeepsOthers, ReturnsEach, free_words_of, index_of, no_space, pair, pairs, space_at, spaces_of, used_of, with_space}
pub use Rattle.capnp_build.specs.Built.{Built, ForRoot, HasBody, HasNullRoot, HasSomeBody, HasValue, IsBuilt, IsLaid, IsLonger, IsRewritten, IsRootKind, IsSet, IsWhole, KeepsBytes, KeepsOutside, LiesOutside, landing_pad_of, message, root_word, size_in_words, state_of}
pub use Rattle.capnp_build.specs.Bytes.{Space, ZeroFrom, with_block, with_bytes, written}
pub use Rattle.capnp_build.specs.Filled.{IsBlockOf, with_more}
pub use Rattle.capnp_build.specs.NewBody.{Fits, body_pointer_word, new_form, output_new_object, words_of_body, zero_form}
pub use Rattle.capnp_build.specs.Out.{HasLarge, IsOut, Out, Removed, TakesOff, here, provided_before, provided_of, there}
pub use Rattle.capnp_build.specs.Outcomes.{ClearsRoot, EnsuresRoot, GivesBack, HasRoomFirst, InitsRoot, IsNewMessage, FirstSegmentError, LooksAtRoot, ClearedRootError, SetsRoot, SetsRootCanonical, FailsFirstSegment}
pub use Rattle.capnp_build.specs.Output.{CanBeWritten, UsesWords}
pub use Rattle.capnp_build.specs.Placed.{RootFormError, FindsNoRoom, FoundNoRoom, HasNoRoom, HasRootAlone, InitWords, IsAdded, IsAtEnd, IsCleared, IsFirst, IsGranted, IsLookedAt, IsPlaced, IsPut, IsZeroAt, KeepsRooms, SegmentError, NewWords, BlockIsAt, most_words}
pub use Rattle.capnp_build.specs.RootKind.{HoldsForm, ShowsRoot}
pub use Rattle.capnp_build.specs.RootViews.{GetsView, HoldsTree, InitsView, FailsWithNull, LeavesRoot}
pub use Rattle.capnp_build.specs.Written.{HasBytes, HasField, HasNumber, IsBytesSet, IsFieldSet, IsNumberSet, IsWritten}
