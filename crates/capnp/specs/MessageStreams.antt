-- What an iterator over the messages of a stream returns (src/streams/message_stream.rt).
use Rattle.std.specs.Prelude.{◌≡◌, ℕ, ◌+◌, ◌-◌, ◌*◌, ◌^◌, ◌<◌, ◌⊎◌, List, Option, Some, None, Result, Ok, Err, IfOk, IfSome, IfNone, OnOk, OnErr}
use Rattle.capnp_frame.specs.declared.error.Error.{Error}
use Rattle.capnp_frame.specs.declared.io.Read.{Ghosts}
use Rattle.capnp_frame.specs.declared.message.options.ReaderOptions.{ReaderOptions}
use Rattle.capnp_frame.specs.declared.serialize.segment_table.Padding.{Padding}
use Rattle.capnp_frame.specs.Prelude.{IfKnown, ReadsStream, serialized_words}
use Rattle.capnp.specs.CountedSource.{CountsTaken, ShowsUnread}
use Rattle.capnp.specs.declared.streams.Format.{Format}
use Rattle.capnp.specs.declared.streams.Format.TheVariants.{Framed}
use Rattle.capnp.specs.declared.streams.message_stream.MessageStream.{MessageStream}
use Rattle.capnp.specs.Streams.{rules_of}

-- the source that it reads
abbrev pub source_of : {S : Type 0} → MessageStream S → S
source_of stream = stream.source

-- how many more messages it may return: none once it has ended
abbrev pub messages_left : {S : Type 0} → MessageStream S → ℕ
messages_left stream = stream.left

-- after how many of its source's bytes the last message ended that it returned
abbrev pub end_of : {S : Type 0} → MessageStream S → ℕ
end_of stream = stream.end

-- it reads messages of this format and padding by these options
pub record HasSettings {S : Type 0} (stream : MessageStream S) (format : Format) (padding : Padding) (options : ReaderOptions) : Type 0 where
  pub format_is : stream.format ≡ format
  pub padding_is : stream.padding ≡ padding
  pub options_are : stream.options ≡ options

-- Nothing of it is read yet: it has these settings, and may return as many messages as any. No byte is counted.
pub record IsNewStream {S : Type 0} (stream : MessageStream S) (format : Format) (padding : Padding) (options : ReaderOptions) : Type 0 where
  pub settings : HasSettings stream format padding options
  pub left : messages_left stream ≡ 2 ^ 64 - 1
  pub counted : end_of stream ≡ 0

-- the item as a result of the reader of the next message: at the end there is none
abbrev pub read_in : {X : Type 0} → (X → List (List ℕ)) → Option (Result X Error) → Result (Option (List (List ℕ))) Error
read_in segments None = Ok None
read_in segments (Some (Ok reader)) = Ok (Some (segments reader))
read_in segments (Some (Err error)) = Err error

-- What a call that reads the next message adds to a count of bytes, which is `before` before the call and `after` after it: `old`
-- is unread before the call, and `new` after it. The source is lawful if it shows no more than is unread.
pub record AddsItsBytes (lawful : Type 0) (format : Format) (old new : Option (List ℕ)) (before after : ℕ) (result : Result (Option (List (List ℕ))) Error) : Type 0 where
  -- the bytes of the message that is returned, a count below 2^64 being exact
  pub counted : IfOk result (λ found. IfSome found (λ segments. lawful → IfKnown old new (CountsTaken before after)))
  -- of a framed message the bytes of its table and its segments, also where the source's bytes aren't known
  pub framed : IfOk result (λ found. IfSome found (λ segments. format ≡ Framed → before + 8 * serialized_words segments < 2 ^ 64
      → after ≡ before + 8 * serialized_words segments))
  -- and nothing where none is returned
  pub kept : IfOk result (λ found. IfNone found (after ≡ before))
  pub kept_by_error : OnErr result (after ≡ before)

-- What `next` returns. `source` is what is seen of the source (the members of the trait Read), and `shown` what it shows.
-- `segments` and `options_of` are what is seen of a message's reader. `old` and `new` are the stream before the call and
-- after it.
pub record GivesMessage {S X : Type 0} (source : Ghosts S) (shown : S → List ℕ) (segments : X → List (List ℕ)) (options_of : X → ReaderOptions)
    (old : MessageStream S) (given : Option (Result X Error)) (new : MessageStream S) : Type 0 where
  -- what the reader of the next message returns, until it ends
  pub reads : 0 < messages_left old → ReadsStream source (source_of old) (source_of new) (rules_of old.padding old.format)
      old.options.traversal_limit_in_words (read_in segments given)
  pub options_are : IfSome given (λ read. IfOk read (λ reader. options_of reader ≡ old.options))
  -- after a message it goes on, with one message less
  pub goes_on : IfSome given (λ read. OnOk read (messages_left new + 1 ≡ messages_left old))
  -- it ends where no message is left, and after an error
  pub ends : IfNone given (messages_left new ≡ 0)
  pub fails : IfSome given (λ read. OnErr read (messages_left new ≡ 0))
  -- then it returns nothing more, and asks its source for nothing
  pub ended : messages_left old ≡ 0 → (given ≡ None) × (new ≡ old)
  pub settings : HasSettings new old.format old.padding old.options
  -- the bytes of the messages that were returned are counted, and no others
  pub counts : AddsItsBytes (ShowsUnread source.unread shown) old.format (source.unread (source_of old)) (source.unread (source_of new)) (end_of old) (end_of new) (read_in segments given)
