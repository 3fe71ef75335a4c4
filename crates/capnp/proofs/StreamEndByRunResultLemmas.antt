-- How the stream of a run ends, by what the run returns.
use Rattle.std.proofs.Common.{◌≡◌, ◌⊎◌, inl, inr, ℕ, ◌<◌, Option, Some, None, IfSome, IfErr, Result, Ok, Err, List, [], ◌∷◌, ◌++◌, ◌≤◌, length, sym, ap, ◌∙◌, subst, arith}
use Rattle.capnp_frame.specs.declared.serialize.segment_table.Padding.{Padding}
use Rattle.capnp_frame.specs.declared.error.ErrorKind.{ErrorKind}
use Rattle.capnp_frame.specs.declared.error.ErrorKind.TheVariants.{DeviceFailed}
use Rattle.capnp_frame.specs.declared.io.Read.{Ghosts}
use Rattle.capnp_frame.specs.declared.io.Write.{Ghosts as SinkGhosts}
use Rattle.capnp_frame.specs.Prelude.{IsReaderKind, IfKnown, Advances, Fails, Grows, AreEncodings}
use Rattle.capnp_frame.proofs.encodings.UniqueDivisionIntoEncodingsLemmas.{AreEncodings-once, AreEncodings-most, EndsEncodings-once}
use Rattle.capnp.specs.declared.streams.Format.{Format}
use Rattle.capnp.specs.declared.streams.FailedAt.{FailedAt}
use Rattle.capnp.specs.Prelude.{grammar_of, refuses_of, FoundNext, NextError, EndsBy, IsStream, Writing, WritingErrors, most_messages, RanOut, HasWritten, FailedReading, FailedWriting, HasFailed, HasRun, IsResultOf, WritingErrorAt, RunErrorOf, FailsByRun, RunError, WritesEach}
use Rattle.capnp.proofs.RunOutputMessageByMessageLemmas.{format_lawful, format_parts}

pub ran_out_ends : (rule : Padding) (format : Format) (limit : Option ℕ) (Writes : Writing) (left before after : Option (List ℕ))
    (raw : List ℕ) (ran : RanOut rule format limit Writes left before after raw) (messages : List (List (List ℕ)))
    (ending : Option ErrorKind) → IsStream rule format limit messages ending raw → length messages < most_messages
    → ending ≡ None
ran_out_ends rule format limit Writes left before after raw ran messages ending stream few =
    let written = ran.written in
    let counted = written.counted in
    elim (ran.done) [
      | inl none ↦
          let one = AreEncodings-once (format_parts rule format limit) None ending written.messages messages raw ran.rest stream.rest written.encodings none stream.encodings stream.ends in
          sym (EndsEncodings-once rule (format_lawful format) limit None ending stream.rest (sym one.1 ∙ none) stream.ends)
      | inr most ↦
          let bound = AreEncodings-most (format_parts rule format limit) ending messages written.messages raw stream.rest ran.rest stream.encodings stream.ends written.encodings in
          absurd (omega (arith, bound, few, most, counted))
    ]

-- the reader's error is the right one
error_ends : (rule : Padding) (format : Format) (limit : Option ℕ) (kind : ErrorKind) (rest : List ℕ) (left : Option (List ℕ)) → IfKnown (Some rest) left (NextError rule format limit kind) → EndsBy rule format limit (Some kind) rest
error_ends rule format limit kind rest None line = absurd line
error_ends rule format limit kind rest (Some left) line = (left, line)

-- how a stream ends that stopped there, and after how many messages
failed_ends : (rule : Padding) (format : Format) (limit : Option ℕ) (Writes : Writing) (count : ℕ) (kind : ErrorKind)
    (left before after : Option (List ℕ)) (raw : List ℕ)
    (failed : FailedReading rule format limit Writes count kind left before after raw)
    → EndsBy rule format limit (Some kind) failed.rest → (messages : List (List (List ℕ))) (ending : Option ErrorKind)
    → IsStream rule format limit messages ending raw → (ending ≡ Some kind) × (count ≡ length messages)
failed_ends rule format limit Writes count kind left before after raw failed ends messages ending stream =
    let written = failed.written in
    let one = AreEncodings-once (format_parts rule format limit) (Some kind) ending written.messages messages raw failed.rest stream.rest written.encodings ends stream.encodings stream.ends in
    let moved : EndsBy rule format limit (Some kind) stream.rest = subst (λ l. EndsBy rule format limit (Some kind) l) one.1 ends in
    (sym (EndsEncodings-once rule (format_lawful format) limit (Some kind) ending stream.rest moved stream.ends), sym written.counted ∙ ap length one.0)

-- no more messages are written than the stream has
few_written : (rule : Padding) (format : Format) (limit : Option ℕ) (Writes : Writing) (count : ℕ) (before after : Option (List ℕ)) (raw rest : List ℕ)
    → HasWritten rule format limit Writes count before after raw rest → (messages : List (List (List ℕ))) (ending : Option ErrorKind)
    → IsStream rule format limit messages ending raw → count ≤ length messages
few_written rule format limit Writes count before after raw rest written messages ending stream =
    let bound = AreEncodings-most (format_parts rule format limit) ending messages written.messages raw stream.rest rest stream.encodings stream.ends written.encodings in
    omega (arith, bound, written.counted)

-- the message after some of a stream's messages is the next of them
next_listed : (rule : Padding) (format : Format) (limit : Option ℕ) (ending : Option ErrorKind) (ms messages : List (List (List ℕ))) (message : List (List ℕ))
    (raw between left rest : List ℕ) → AreEncodings (grammar_of rule format) limit ms raw between → FoundNext rule format limit message between left
    → AreEncodings (grammar_of rule format) limit messages raw rest → EndsBy rule format limit ending rest
    → (others : List (List (List ℕ))) × (messages ≡ ms ++ message ∷ others)
next_listed rule format limit ending [] [] message raw between left rest encodings is_found all ends =
    absurd ((format_parts rule format limit).ends_apart ending message raw left (subst (λ l. EndsBy rule format limit ending l) all ends)
    (subst (λ l. FoundNext rule format limit message l left) encodings is_found))
next_listed rule format limit ending [] (n ∷ ns) message raw between left rest encodings is_found all ends =
    let here : FoundNext rule format limit message raw left = subst (λ l. FoundNext rule format limit message l left) encodings is_found in
    let same = (format_parts rule format limit).begins_once message n raw left all.0 here all.1 in
    (ns, ap (λ x. x ∷ ns) (sym same.0))
next_listed rule format limit ending (m ∷ ms) [] message raw between left rest encodings is_found all ends =
    absurd ((format_parts rule format limit).ends_apart ending m raw encodings.0 (subst (λ l. EndsBy rule format limit ending l) all ends) encodings.1)
next_listed rule format limit ending (m ∷ ms) (n ∷ ns) message raw between left rest encodings is_found all ends =
    let same = (format_parts rule format limit).begins_once m n raw encodings.0 all.0 encodings.1 all.1 in
    let moved = subst (λ l. AreEncodings (grammar_of rule format) limit ms l between) same.1 encodings.2 in
    let inner = next_listed rule format limit ending ms ns message all.0 between left rest moved is_found all.2 ends in
    (inner.0, ap (λ x. x ∷ ns) (sym same.0) ∙ ap (λ l. m ∷ l) inner.1)

-- a message at which a run stopped is the stream's of that index
writing_error_at : (rule : Padding) (format : Format) (limit : Option ℕ) (Writes : Writing) (Errors : WritingErrors) (count : ℕ) (kind : ErrorKind)
    (left before after : Option (List ℕ)) (raw : List ℕ) (failed : FailedWriting rule format limit Writes Errors count kind left before after raw)
    → IfKnown (Some failed.rest) left (FoundNext rule format limit failed.message) → (messages : List (List (List ℕ))) (ending : Option ErrorKind)
    → IsStream rule format limit messages ending raw → WritingErrorAt Errors messages count kind
writing_error_at rule format limit Writes Errors count kind None before after raw failed is_found messages ending stream = absurd is_found
writing_error_at rule format limit Writes Errors count kind (Some left) before after raw failed is_found messages ending stream =
    let written = failed.written in
    let next = next_listed rule format limit ending written.messages messages failed.message raw failed.rest left stream.rest written.encodings is_found stream.encodings stream.ends in
    record {
      before = written.messages;
      message = failed.message;
      others = next.0;
      listed = next.1;
      counted = written.counted;
      error = failed.error;
    }

pub failed_returns : (rule : Padding) (format : Format) (limit : Option ℕ) (Writes : Writing) (Errors : WritingErrors) (count : ℕ)
    (kind : ErrorKind) (left before after : Option (List ℕ)) (raw : List ℕ)
    → HasFailed rule format limit Writes Errors count kind left before after raw
    → (messages : List (List (List ℕ))) (ending : Option ErrorKind) → IsStream rule format limit messages ending raw
    → ((ending ≡ Some kind) × (count ≡ length messages)) ⊎ RunErrorOf Errors messages count kind
failed_returns rule format limit Writes Errors count kind left before after raw (inl failed) messages ending stream =
    let few = few_written rule format limit Writes count before after raw failed.rest failed.written messages ending stream in
    elim (failed.error) [
      | inl device ↦ inr (inl (inl device, few))
      | inr (inl memory) ↦ inr (inl (inr memory.0, few))
      | inr (inr line) ↦ inl (failed_ends rule format limit Writes count kind left before after raw failed (error_ends rule format limit kind failed.rest left line) messages ending stream)
    ]
failed_returns rule format limit Writes Errors count kind left before after raw (inr failed) messages ending stream =
    inr (inr (writing_error_at rule format limit Writes Errors count kind left before after raw failed failed.is_found messages ending stream))

returned : (rule : Padding) (format : Format) (limit : Option ℕ) (Writes : Writing) (Errors : WritingErrors)
    (result : Result (Unit {0}) FailedAt) (left before after : Option (List ℕ)) (raw : List ℕ)
    → HasRun rule format limit Writes Errors result left before after raw
    → (messages : List (List (List ℕ))) (ending : Option ErrorKind) → IsStream rule format limit messages ending raw
    → length messages < most_messages → IsResultOf result messages ending ⊎ FailsByRun Errors result messages
returned rule format limit Writes Errors (Ok done) left before after raw ran messages ending stream few = inl (ran_out_ends rule format limit Writes left before after raw ran messages ending stream few)
returned rule format limit Writes Errors (Err failure) left before after raw ran messages ending stream few =
    failed_returns rule format limit Writes Errors failure.message failure.error.kind left before after raw ran messages ending stream

returned_known : (rule : Padding) (format : Format) (limit : Option ℕ) (Writes : Writing) (Errors : WritingErrors)
    (result : Result (Unit {0}) FailedAt) (old left before after : Option (List ℕ))
    → IfSome old (HasRun rule format limit Writes Errors result left before after)
    → IfSome old (λ raw. (messages : List (List (List ℕ))) (ending : Option ErrorKind)
    → IsStream rule format limit messages ending raw → length messages < most_messages
    → IsResultOf result messages ending ⊎ FailsByRun Errors result messages)
returned_known rule format limit Writes Errors result None left before after ran = tt
returned_known rule format limit Writes Errors result (Some raw) left before after ran = returned rule format limit Writes Errors result left before after raw ran

-- a stream is one list of messages, and ends in one way
pub stream_once : (rule : Padding) (format : Format) (limit : Option ℕ) (messages others : List (List (List ℕ)))
    (ending other : Option ErrorKind) (raw : List ℕ) → IsStream rule format limit messages ending raw
    → IsStream rule format limit others other raw → (messages ≡ others) × (ending ≡ other)
stream_once rule format limit messages others ending other raw stream also =
    let one = AreEncodings-once (format_parts rule format limit) ending other messages others raw stream.rest also.rest stream.encodings stream.ends also.encodings also.ends in
    (one.0, EndsEncodings-once rule (format_lawful format) limit ending other also.rest (subst (λ l. EndsBy rule format limit ending l) one.1 stream.ends) also.ends)

-- what a run does, by what it writes and by how it fails
pub writes_each : {S T : Type 0} {source : Ghosts S} {old new : S} {sink : SinkGhosts T} {before after : T} {rule : Padding} {format : Format}
    {limit : Option ℕ} {Writes : Writing} {Errors : WritingErrors} {result : Result (Unit {0}) FailedAt}
    → IfSome (source.unread old) (HasRun rule format limit Writes Errors result (source.unread new) (sink.written before) (sink.written after))
    → IfErr result (λ failure. IsReaderKind rule (refuses_of format) failure.error.kind ⊎ RunError Errors failure.message failure.error.kind)
    → IfErr result (λ failure. failure.error.kind ≡ DeviceFailed
    → Fails (source.failures old) (source.failures new) ⊎ Fails (sink.failures before) (sink.failures after))
    → Advances source.unread source.failures source.same old new → Grows sink.written sink.failures sink.same before after
    → WritesEach source old new sink before after rule format limit Writes Errors result
writes_each {source = source} {old} {new} {sink} {before} {after} {rule} {format} {limit} {Writes} {Errors} {result} written kinds failed advances grows = record {
  written = written;
  exact = returned_known rule format limit Writes Errors result (source.unread old) (source.unread new) (sink.written before) (sink.written after) written;
  kinds = kinds;
  failed = failed;
  advances = advances;
  grows = grows;
}
