-- What reading as many messages as are asked for returns (src/streams/appended.rt).
use Rattle.std.specs.Prelude.{◌≡◌, ◌⊎◌, ℕ, ◌<◌, ◌≤◌, List, length, map, Option, Result, Err, IfSome, IfOk, IfErr}
use Rattle.std.specs.List.{AllByRecursion}
use Rattle.capnp_frame.specs.declared.error.Error.{Error}
use Rattle.capnp_frame.specs.declared.error.ErrorKind.{ErrorKind}
use Rattle.capnp_frame.specs.declared.error.ErrorKind.TheVariants.{DeviceFailed, OutOfMemory}
use Rattle.capnp_frame.specs.declared.message.options.ReaderOptions.{ReaderOptions}
use Rattle.capnp_frame.specs.declared.io.Read.{Ghosts}
use Rattle.capnp_frame.specs.declared.serialize.segment_table.Padding.{Padding}
use Rattle.capnp_frame.specs.declared.serialize.segment_table.Padding.TheVariants.{Zero}
use Rattle.capnp_frame.specs.Prelude.{IfKnown, Advances, Fails, ReadsStream, AreEncodings}
use Rattle.capnp.specs.declared.streams.Format.{Format}
use Rattle.capnp.specs.Headline.{ExternalError, OrFailsAtEnd}
use Rattle.capnp.specs.Streams.{grammar_of, rules_of}

-- Fewer messages than were asked for were read, and then the reader of this format failed with this
-- error. `source` is what is seen of the source (the members of the trait Read), which is `old`
-- before the call and `new` after it.
pub record FailsWithin {S : Type 0} (source : Ghosts S) (old new : S) (rule : Padding) (format : Format) (limit : Option ℕ) (count : ℕ)
    (error : Error) : Type 0 where
  -- the source once these were read
  pub between : S
  pub messages : List (List (List ℕ))
  pub fewer : length messages < count
  pub encodings : IfKnown (source.unread old) (source.unread between) (AreEncodings (grammar_of rule format) limit messages)
  -- what the reader of the next message keeps where it fails
  pub next : OrFailsAtEnd (ReadsStream source between new (rules_of rule format) limit) (Err error)

-- An allocation fails for the list of these messages, the first ones, which were read; the kind is
-- `OutOfMemory`.
pub record ListMemoryError {S : Type 0} (source : Ghosts S) (old new : S) (format : Format) (limit : Option ℕ) (count : ℕ) (kind : ErrorKind) : Type 0 where
  pub memory : kind ≡ OutOfMemory
  pub messages : List (List (List ℕ))
  pub some : 0 < length messages
  pub within : length messages ≤ count
  pub encodings : IfKnown (source.unread old) (source.unread new) (AreEncodings (grammar_of Zero format) limit messages)

-- What a call returns that reads `count` messages of zero padding. `segments` and `options_of` are
-- what is seen of a reader, and `readers` the list of them.
pub record ReadsMessages {S V X : Type 0} (source : Ghosts S) (old new : S) (format : Format) (options : ReaderOptions) (count : ℕ)
    (readers : V → List X) (segments : X → List (List ℕ)) (options_of : X → ReaderOptions) (result : Result V Error) : Type 0 where
  pub counted : IfOk result (λ read. length (readers read) ≡ count)
  -- their encodings are there, one after the other, and only these are consumed
  pub found : IfOk result (λ read. IfKnown (source.unread old) (source.unread new)
      (AreEncodings (grammar_of Zero format) options.traversal_limit_in_words (map segments (readers read))))
  -- each reader has the options that are given
  pub options_are : IfOk result (λ read. AllByRecursion (λ reader. options_of reader ≡ options) (readers read))
  -- where there are encodings of as many messages, a failure is an external error
  pub accepted : IfErr result (λ error. IfSome (source.unread old) (λ raw. (messages : List (List (List ℕ))) (rest : List ℕ)
      → AreEncodings (grammar_of Zero format) options.traversal_limit_in_words messages raw rest → length messages ≡ count → ExternalError error.kind))
  -- it fails where the reader of one message does, or when out of memory for the list
  pub fails : IfErr result (λ error. ListMemoryError source old new format options.traversal_limit_in_words count error.kind
      ⊎ FailsWithin source old new Zero format options.traversal_limit_in_words count error)
  -- `DeviceFailed` is returned only where the device failed
  pub failed : IfErr result (λ error. error.kind ≡ DeviceFailed → Fails (source.failures old) (source.failures new))
  -- the source moves on, or stays
  pub advances : Advances source.unread source.failures source.same old new
