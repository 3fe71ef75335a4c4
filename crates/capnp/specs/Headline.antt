-- What readers of messages return, by the encodings of messages and by what their source gives.
use Rattle.std.specs.Prelude.{◌≡◌, ℕ, ◌*◌, ◌+◌, ◌≤◌, ⊤, List, length, ◌⊎◌, Option, Some, None, IfSome, IsSome, Result, Ok, Err, IfOk, MatchResult}
use Rattle.std.specs.Option.{option_map}
use Rattle.std.specs.Result.{result_map_both}
use Rattle.capnp_frame.specs.declared.error.Error.{Error}
use Rattle.capnp_frame.specs.declared.error.ErrorKind.{ErrorKind}
use Rattle.capnp_frame.specs.declared.error.ErrorKind.TheVariants.{DeviceFailed, OutOfMemory, PrematureEndOfFile}
use Rattle.capnp_frame.specs.declared.io.Read.{Ghosts}
use Rattle.capnp_frame.specs.declared.message.options.ReaderOptions.{ReaderOptions}
use Rattle.capnp_frame.specs.declared.serialize.segment_table.Padding.{Padding}
use Rattle.capnp_frame.specs.Prelude.{FlatRules, ReadsFlat, IsFrame, size_in_words, table_size, IfKnown, StreamRules, framed_rules, reusing_rules, next_in, ReadsStream, ReadsStreamInto, Grammar, BeginsWith, SeenBuffer}
use Rattle.capnp_message.specs.Seen.{ReadMessage}
use Rattle.capnp_pack.specs.Prelude.{IsPackedFrame, packed_rules, packed_reusing_rules}
use Rattle.capnp.specs.declared.streams.Format.{Format}
use Rattle.capnp.specs.Streams.{IsPlainSource, grammar_of, rules_of}

-- a failure that does not depend on the bytes
abbrev pub ExternalError : ErrorKind → Type 0
ExternalError kind = (kind ≡ DeviceFailed) ⊎ (kind ≡ OutOfMemory)

-- a caller-provided buffer has room for the message
abbrev pub BufferHasRoom : ℕ → List (List ℕ) → Type 0
BufferHasRoom room message = table_size (length message) + 8 * size_in_words message ≤ room

-- What a reader that allocates returns for a stream in a grammar: `old` is unread before the call,
-- and `new` after it.
pub record ReturnsEncodings (IsEncoding : Grammar) (limit : Option ℕ) (old new : Option (List ℕ))
    (result : Result (Option (List (List ℕ))) Error) : Type 0 where
  -- an encoding of the message that is returned is there, the message is within the limit, and only
  -- that encoding is consumed
  pub found : IfOk result (λ found. IfSome found (λ message. IfKnown old new (BeginsWith IsEncoding limit message)))
  -- where there is an encoding of a message within the limit, a message is returned, unless the device fails
  -- or an allocation does
  pub accepted : IfSome old (λ raw. (message : List (List ℕ)) (rest : List ℕ) → BeginsWith IsEncoding limit message raw rest
      → MatchResult result IsSome (λ error. ExternalError error.kind))

-- What a reader into a caller-provided buffer of `room` bytes returns.
pub record ReturnsEncodingsInto (IsEncoding : Grammar) (limit : Option ℕ) (room : ℕ) (old new : Option (List ℕ))
    (result : Result (Option (List (List ℕ))) Error) : Type 0 where
  -- an encoding of the message that is returned is there, the message is within the limit, and only
  -- that encoding is consumed
  pub found : IfOk result (λ found. IfSome found (λ message. IfKnown old new (BeginsWith IsEncoding limit message)))
  -- where there is an encoding of a message within the limit, and the buffer has room for it, a message is
  -- returned, unless the device fails
  pub accepted : IfSome old (λ raw. (message : List (List ℕ)) (rest : List ℕ) → BeginsWith IsEncoding limit message raw rest
      → BufferHasRoom room message → MatchResult result IsSome (λ error. error.kind ≡ DeviceFailed))

-- A reader of what was read, with these options.
abbrev pub reader_of : {B : Type 0} → ReaderOptions → Result (Option B) Error → Result (Option (ReadMessage B)) Error
reader_of options next = result_map_both (option_map (λ segments. record { segments = segments; options = options })) (λ error. error) next

-- What a reader of messages goes by: the encodings of its format, over which sources it reads just
-- these, and the rules of its stream.
pub record MessageRules : Type 1 where
  pub is_encoding : Grammar
  pub plain : Type 0
  pub stream : StreamRules

-- framed messages of a source, with a padding that the rule accepts
abbrev pub framed : {S : Type 0} → Padding → Ghosts S → MessageRules
framed rule source = record {
  is_encoding = IsFrame rule;
  plain = IsPlainSource source.gives source.refuses;
  stream = framed_rules rule source.gives source.refuses;
}

-- packed messages
abbrev pub packed : Padding → MessageRules
packed rule = record { is_encoding = IsPackedFrame rule; plain = ⊤; stream = packed_rules rule }

-- messages that are read into the memory of the message `kept`
abbrev pub framed_reusing : {S : Type 0} → Padding → Ghosts S → List (List ℕ) → MessageRules
framed_reusing rule source kept = record (framed rule source) { stream = reusing_rules rule source.gives source.refuses kept }

abbrev pub packed_reusing : Padding → List (List ℕ) → MessageRules
packed_reusing rule kept = record (packed rule) { stream = packed_reusing_rules rule kept }

-- messages of either format, of a source of plain bytes
abbrev pub by_format : Padding → Format → MessageRules
by_format rule format = record { is_encoding = grammar_of rule format; plain = ⊤; stream = rules_of rule format }

-- What each reader of the next message of a stream returns. `source` is what is seen of the source
-- (the members of the trait Read), `old` and `new` are the source before the call and after it.
pub record ReadsMessage {S : Type 0} (source : Ghosts S) (old new : S) (rules : MessageRules) (options : ReaderOptions)
    (result : Result (Option (ReadMessage (List (List ℕ)))) Error) : Type 0 where
  -- over a source of plain bytes: the unread bytes begin with an encoding of the message
  pub encodings : rules.plain → ReturnsEncodings rules.is_encoding options.traversal_limit_in_words (source.unread old) (source.unread new)
      (next_in (λ reader. reader.segments) result)
  -- over any source: what its requests give, and when they fail
  pub reads : ReadsStream source old new rules.stream options.traversal_limit_in_words (next_in (λ reader. reader.segments) result)
  -- the reader has the options that are given
  pub options_are : IfOk result (λ found. IfSome found (λ reader. reader.options ≡ options))

-- And what a reader into a caller-provided buffer of `room` bytes returns; the message's segments are seen in
-- the buffer.
pub record ReadsMessageInto {S B : Type 0} (source : Ghosts S) (old new : S) (rules : MessageRules) (options : ReaderOptions) (room : ℕ)
    (result : Result (Option (ReadMessage (SeenBuffer B))) Error) : Type 0 where
  -- over a source of plain bytes: the unread bytes begin with an encoding of the message
  pub encodings : rules.plain → ReturnsEncodingsInto rules.is_encoding options.traversal_limit_in_words room (source.unread old) (source.unread new)
      (next_in (λ reader. reader.segments.segments) result)
  -- over any source: what its requests give, and when they fail
  pub reads : ReadsStreamInto source old new rules.stream options.traversal_limit_in_words room (next_in (λ reader. reader.segments.segments) result)
  -- the reader has the options that are given
  pub options_are : IfOk result (λ found. IfSome found (λ reader. reader.options ≡ options))

-- What each reader of the message at the front of a slice returns, by the rules of its table: the
-- slice has `bytes` before the call and `left` after it.
pub record ReadsFlatMessage {B : Type 0} (rules : FlatRules) (options : ReaderOptions) (bytes left : List ℕ)
    (result : Result (ReadMessage (SeenBuffer B)) Error) : Type 0 where
  -- the message is at the front, within the limit, and the slice moves just past it; or why not
  pub reads : ReadsFlat rules bytes (Some left) (λ reader. reader.segments.segments) result
  -- the reader has the options that are given
  pub options_are : IfOk result (λ reader. reader.options ≡ options)

-- What the form that may return None returns, except that this one fails with PrematureEndOfFile there.
abbrev pub OrFailsAtEnd : {X : Type 0} → (Result (Option X) Error → Type 0) → Result X Error → Type 0
OrFailsAtEnd tried (Ok found) = tried (Ok (Some found))
OrFailsAtEnd tried (Err error) = tried (Err error) ⊎ ((error.kind ≡ PrematureEndOfFile) × tried (Ok None))

-- the result of this form, by the result of the form that may return None
abbrev pub required : {X : Type 0} → Result (Option X) Error → Result X Error
required (Ok (Some found)) = Ok found
required (Ok None) = Err (record { kind = PrematureEndOfFile })
required (Err error) = Err error
