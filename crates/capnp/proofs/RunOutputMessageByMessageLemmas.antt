-- A run over the messages of a stream, message by message: what is written so far, and where it ends or fails.
use Rattle.std.proofs.Common.{◌≡◌, inl, inr, ℕ, ◌+◌, Option, Some, None, IfSome, Ok, Err, List, [], ◌∷◌, ◌++◌, length, refl, sym, ap, ◌∙◌, subst, arith, append_assoc, length-append}
use Rattle.std.proofs.lemmas.List.{append-nil, length_push, nil_from_length}
use Rattle.std.specs.List.{AllByRecursion}
use Rattle.capnp_frame.specs.declared.serialize.segment_table.Padding.{Padding}
use Rattle.capnp_frame.specs.declared.error.ErrorKind.{ErrorKind}
use Rattle.capnp_frame.specs.Prelude.{IsWithin, IsWholeWords, IsSource, IfKnown, IsTail, Adds, splitting}
use Rattle.capnp_frame.proofs.sources.JoinedRequestPartsLemmas.{IfKnown-join, IfKnown-refl, IfKnown-weaker}
use Rattle.capnp_frame.proofs.encodings.PlainRequestsTakeFrameLemmas.{plain_requests}
use Rattle.capnp_frame.proofs.encodings.UniqueDivisionIntoEncodingsLemmas.{AreRequested, PartsStreams, parts_streams, AreEncodings-push}
use Rattle.capnp_pack.specs.Prelude.{unpacking}
use Rattle.capnp_pack.proofs.encodings.FoundMessageIsPackedFrameLemmas.{packed_requests}
use Rattle.capnp.specs.declared.streams.Format.{Format}
use Rattle.capnp.specs.declared.streams.Format.TheVariants.{Framed, Packed}
use Rattle.capnp.specs.declared.streams.FailedAt.{FailedAt}
use Rattle.capnp.specs.Prelude.{grammar_of, gives_of, refuses_of, rules_of, Writing, WritingErrors, WritesFrom, WritesAll, HasWrittenNext, HasWritten, ReadingError, WritingError, FailsWithinOr, RunError, most_messages, HasRun, by_format}
use Rattle.capnp.proofs.ReaderOutcomeByFormatRulesLemmas.{found_next}
use Rattle.capnp.proofs.SourceEncodingLemmas.{AreRead, are_read}
use Rattle.capnp.proofs.MessageWriteLemmas.{IsWritable-within}

-- Both formats.

pub format_lawful : (format : Format) → IsSource (gives_of format) (refuses_of format)
format_lawful Framed = splitting
format_lawful Packed = unpacking

pub format_requested : (rule : Padding) (format : Format) → AreRequested (grammar_of rule format) rule (gives_of format)
format_requested rule Framed = plain_requests rule
format_requested rule Packed = packed_requests rule

pub format_parts : (rule : Padding) (format : Format) (limit : Option ℕ) → PartsStreams (grammar_of rule format) rule (gives_of format) (refuses_of format) limit
format_parts rule format limit = parts_streams rule (format_lawful format) (format_requested rule format) limit

pub format_read : (rule : Padding) (format : Format) → AreRead (by_format rule format)
format_read rule format plain = (λ m raw rest. (λ x. x, λ x. x), are_read rule (format_lawful format) (format_requested rule format))

-- What is written, message by message.

WritesFrom-push : (Writes : Writing) (index : ℕ) (ms : List (List (List ℕ))) (m : List (List ℕ)) (encoding more : List ℕ)
    → WritesFrom Writes index ms encoding → Writes (index + length ms) m more
    → WritesFrom Writes index (ms ++ m ∷ []) (encoding ++ more)
WritesFrom-push Writes index [] m encoding more all here =
    let first : index + 0 ≡ index = omega arith in
    (more, [], subst (λ k. Writes k m more) first here, refl, ap (λ l. l ++ more) all ∙ sym (append-nil more))
WritesFrom-push Writes index (n ∷ ns) m encoding more all here =
    let moved : index + length (n ∷ ns) ≡ index + 1 + length ns = omega arith in (
      all.0,
      all.1 ++ more,
      all.2,
      WritesFrom-push Writes (index + 1) ns m all.1 more all.3 (subst (λ k. Writes k m more) moved here),
      ap (λ l. l ++ more) all.4 ∙ append_assoc all.0 all.1 more,
    )

-- no message is written yet
pub HasWritten-none : (rule : Padding) (format : Format) (limit : Option ℕ) (Writes : Writing) (written : Option (List ℕ)) (raw : List ℕ) → HasWritten rule format limit Writes 0 written written raw raw
HasWritten-none rule format limit Writes written raw = record {
  messages = [];
  counted = refl;
  encodings = refl;
  written = IfKnown-refl (Adds (WritesAll Writes [])) written (λ l. ([], refl, sym (append-nil l)));
}

Adds-join : (Writes : Writing) (ms : List (List (List ℕ))) (m : List (List ℕ)) (x y z : List ℕ)
    → Adds (WritesAll Writes ms) x y → Adds (Writes (length ms) m) y z → Adds (WritesAll Writes (ms ++ m ∷ [])) x z
Adds-join Writes ms m x y z (encoding, all, e) (more, here, f) =
    let at : length ms ≡ 0 + length ms = omega arith in
    (encoding ++ more, WritesFrom-push Writes 0 ms m encoding more all (subst (λ k. Writes k m more) at here), f ∙ ap (λ l. l ++ more) e ∙ append_assoc x encoding more)

-- one more message is written
pub HasWritten-next : (rule : Padding) (format : Format) (limit : Option ℕ) (Writes : Writing) (count : ℕ)
    (before between after : Option (List ℕ)) (raw mid rest : List ℕ)
    → HasWritten rule format limit Writes count before between raw mid
    → HasWrittenNext rule format limit Writes count between after mid rest
    → HasWritten rule format limit Writes (count + 1) before after raw rest
HasWritten-next rule format limit Writes count before between after raw mid rest written next = record {
  messages = written.messages ++ next.message ∷ [];
  counted = length_push written.messages next.message ∙ ap (λ k. k + 1) written.counted;
  encodings = AreEncodings-push (grammar_of rule format) limit written.messages next.message raw mid rest written.encodings next.is_found;
  written = IfKnown-join before between after (Adds-join Writes written.messages next.message) written.written
      (subst (λ k. IfKnown between after (Adds (Writes k next.message))) (sym written.counted) next.written);
}

-- the next message is there, and is written, or not completely
pub written_next : (rule : Padding) (format : Format) (limit : Option ℕ) (Writes : Writing) (index : ℕ) (message : List (List ℕ))
    (old new before after : Option (List ℕ)) → IsWithin message limit
    → IfKnown old new ((rules_of rule format).finds message) → IfKnown before after (Adds (Writes index message))
    → IfKnown old new (HasWrittenNext rule format limit Writes index before after)
written_next rule format limit Writes index message old new before after within is_found written =
    IfKnown-weaker old new (λ raw rest begins. record { message = message; is_found = begins; written = written })
    (found_next rule format limit message old new within is_found)

-- a run stops by an error of writing also where a reader accepts the message
pub message_run_error : (limit : Option ℕ) (Errors : WritingErrors) (index : ℕ) (message : List (List ℕ))
    (kind : ErrorKind) → IsWithin message limit → AllByRecursion IsWholeWords message
    → WritingError Errors index message kind → RunError Errors index kind
message_run_error limit Errors index message kind within whole error = inr (message, IsWritable-within message limit within whole, error)

-- What a run has done, by what its source had and has.

pub all_written : (rule : Padding) (format : Format) (limit : Option ℕ) (Writes : Writing) (Errors : WritingErrors) (count : ℕ)
    (old mid left before between after : Option (List ℕ))
    → IfKnown old mid (HasWritten rule format limit Writes count before between) → IfSome mid (λ raw. raw ≡ [])
    → IfKnown mid left IsTail → after ≡ between
    → IfSome old (HasRun rule format limit Writes Errors (Ok tt) left before after)
all_written rule format limit Writes Errors count None mid left before between after written end tail same = tt
all_written rule format limit Writes Errors count (Some raw) None left before between after written end tail same = absurd written
all_written rule format limit Writes Errors count (Some raw) (Some rest) None before between after written end tail same = absurd tail
all_written rule format limit Writes Errors count (Some raw) (Some rest) (Some left) before between after written end tail same =
    let none : left ≡ [] = nil_from_length left (omega (arith, ap length end, ap length tail.1, length-append tail.0 left)) in
    record {
      count = count;
      rest = left;
      unread = refl;
      written = subst (λ w. HasWritten rule format limit Writes count before w raw left) (sym same)
          (subst (λ l. HasWritten rule format limit Writes count before between raw l) (end ∙ sym none) written);
      done = inl none;
    }

pub most_written : (rule : Padding) (format : Format) (limit : Option ℕ) (Writes : Writing) (Errors : WritingErrors) (count : ℕ)
    (old left before after : Option (List ℕ)) → IfKnown old left (HasWritten rule format limit Writes count before after)
    → count ≡ most_messages → IfSome old (HasRun rule format limit Writes Errors (Ok tt) left before after)
most_written rule format limit Writes Errors count None left before after written most = tt
most_written rule format limit Writes Errors count (Some raw) None before after written most = absurd written
most_written rule format limit Writes Errors count (Some raw) (Some rest) before after written most = record { count = count; rest = rest; unread = refl; written = written; done = inr most }

pub failed_reading : (rule : Padding) (format : Format) (limit : Option ℕ) (Writes : Writing) (Errors : WritingErrors)
    (failure : FailedAt) (old mid left before between after : Option (List ℕ))
    → IfKnown old mid (HasWritten rule format limit Writes failure.message before between)
    → ReadingError rule format limit failure.error.kind mid left → after ≡ between
    → IfSome old (HasRun rule format limit Writes Errors (Err failure) left before after)
failed_reading rule format limit Writes Errors failure None mid left before between after written error same = tt
failed_reading rule format limit Writes Errors failure (Some raw) None left before between after written error same = absurd written
failed_reading rule format limit Writes Errors failure (Some raw) (Some rest) left before between after written error same =
    inl (record { rest = rest; written = subst (λ w. HasWritten rule format limit Writes failure.message before w raw rest) (sym same) written; error = error })

-- what a sink was left as is what was written to it
pub left_as_written : {S : Type 0} (written : S → Option (List ℕ)) (Errors : WritingErrors) (index : ℕ) (message : List (List ℕ)) (kind : ErrorKind)
    (old new : S) → FailsWithinOr Errors index message (new ≡ old) kind → FailsWithinOr Errors index message (written new ≡ written old) kind
left_as_written written Errors index message kind old new (inl failed) = inl failed
left_as_written written Errors index message kind old new (inr (inl sink_error)) = inr (inl sink_error)
left_as_written written Errors index message kind old new (inr (inr same)) = inr (inr (ap written same))

-- the next message was read, and not written as a whole
pub failed_at_message : (rule : Padding) (format : Format) (limit : Option ℕ) (Writes : Writing) (Errors : WritingErrors)
    (failure : FailedAt) (message : List (List ℕ)) (old mid left before between after : Option (List ℕ))
    → IsWithin message limit → AllByRecursion IsWholeWords message
    → IfKnown old mid (HasWritten rule format limit Writes failure.message before between)
    → IfKnown mid left ((rules_of rule format).finds message)
    → WritingError Errors failure.message message failure.error.kind → IfKnown between after (Adds (Errors.leaves failure.message message))
    → FailsWithinOr Errors failure.message message (after ≡ between) failure.error.kind
    → IfSome old (HasRun rule format limit Writes Errors (Err failure) left before after)
failed_at_message rule format limit Writes Errors failure message None mid left before between after within whole written is_found error of_it untouched = tt
failed_at_message rule format limit Writes Errors failure message (Some raw) None left before between after within whole written is_found error of_it untouched = absurd written
failed_at_message rule format limit Writes Errors failure message (Some raw) (Some rest) left before between after within whole written is_found error of_it untouched =
    inr (record {
      rest = rest;
      between = between;
      written = written;
      message = message;
      is_found = found_next rule format limit message (Some rest) left within is_found;
      writable = IsWritable-within message limit within whole;
      error = error;
      left_of_it = of_it;
      untouched = untouched;
    })
