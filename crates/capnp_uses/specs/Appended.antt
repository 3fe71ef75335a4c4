-- What is returned where messages are written one after the other and read back (src/appended.rt).
use Rattle.std.specs.Prelude.{◌≡◌, ◌⊎◌, ℕ, List, [], map, Option, None, Result, IfOk, OnOk, IfErr}
use Rattle.std.specs.List.{AllByRecursion}
use Rattle.capnp_frame.specs.declared.error.Error.{Error}
use Rattle.capnp_frame.specs.declared.error.ErrorKind.TheVariants.{OutOfMemory}
use Rattle.capnp_frame.specs.declared.message.options.ReaderOptions.{ReaderOptions}
use Rattle.capnp_frame.specs.declared.serialize.segment_table.Padding.TheVariants.{Zero}
use Rattle.capnp_frame.specs.Prelude.{AreEncodings, IsWithinSegmentLimit}
use Rattle.capnp.specs.declared.streams.Format.{Format}
use Rattle.capnp.specs.Prelude.{grammar_of, IsEncodingOf, AppendsEach, SegmentCountErrorIn}

-- The result of a call that writes messages and reads them back. A contract sees of it `encodings`, `readers`
-- and `end`.
pub record ReadsBack {V X : Type 0} (format : Format) (options : ReaderOptions) (messages : List (List (List ℕ))) (encodings : V → List ℕ)
    (readers : V → List X) (end : V → Option X) (segments : X → List (List ℕ)) (options_of : X → ReaderOptions) (result : Result V Error)
    : Type 0 where
  -- the bytes are the encodings of the messages, one after the other
  pub written : IfOk result (λ done. AppendsEach (IsEncodingOf format) messages (encodings done))
  -- the readers found their messages there
  pub read : IfOk result (λ done. AreEncodings (grammar_of Zero format) options.traversal_limit_in_words (map segments (readers done)) (encodings done) [])
  -- the messages that are read are the ones that were written
  pub back : IfOk result (λ done. map segments (readers done) ≡ messages)
  pub options_are : IfOk result (λ done. AllByRecursion (λ reader. options_of reader ≡ options) (readers done))
  -- after them there is no message
  pub ends : IfOk result (λ done. end done ≡ None)
  -- one with more segments than a reader accepts is not written
  pub few : OnOk result (AllByRecursion IsWithinSegmentLimit messages)
  pub errors : IfErr result (λ error. SegmentCountErrorIn messages error.kind ⊎ (error.kind ≡ OutOfMemory))
