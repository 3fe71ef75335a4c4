-- The messages of a stream that lies in memory are read one after another, until the stream ends or an allocation
-- fails.
use Rattle.std.proofs.Common.{◌≡◌, ◌⊎◌, inl, inr, ℕ, ◌-◌, ◌<◌, ◌≤◌, Option, Some, None, List, [], ◌∷◌, ◌++◌, length, drop, refl, sym, ap, ◌∙◌, subst, arith, append_assoc, length-append}
use Rattle.std.proofs.Math.Seq.{drop-append_seam}
use Rattle.capnp_frame.specs.declared.serialize.segment_table.Padding.{Padding}
use Rattle.capnp_frame.specs.declared.error.Error.{Error}
use Rattle.capnp_frame.specs.declared.error.ErrorKind.{ErrorKind}
use Rattle.capnp_frame.specs.declared.error.ErrorKind.TheVariants.{DeviceFailed, OutOfMemory}
use Rattle.capnp_frame.specs.Prelude.{IsWithin, Fails, Grammar, AreEncodings, TakesMemory}
use Rattle.capnp_frame.proofs.sources.JoinedCallsAdvanceSourceLemmas.{never_fails}
use Rattle.capnp_frame.proofs.encodings.UniqueDivisionIntoEncodingsLemmas.{AreEncodings-push}
use Rattle.capnp.specs.declared.streams.Format.{Format}
use Rattle.capnp.specs.Prelude.{grammar_of, gives_of, FoundNext, NextError, TakesForNext, EndsBy, IsStream, kind_of, IsMemoryError, TakesForListed, EndsReading}
use Rattle.capnp.proofs.StreamEndByRunResultLemmas.{stream_once}
use Rattle.capnp.proofs.RunOutputMessageByMessageLemmas.{format_parts}

-- a slice never fails, so its reader fails only when out of memory or with an error of its bytes
pub slice_reader_error : (rule : Padding) (format : Format) (limit : Option ℕ) (kind : ErrorKind) (old new : List ℕ) → (kind ≡ DeviceFailed → Fails 0 0)
    → (kind ≡ DeviceFailed) ⊎ ((kind ≡ OutOfMemory) × TakesMemory rule (gives_of format) limit old new) ⊎ NextError rule format limit kind old new
    → ((kind ≡ OutOfMemory) × TakesForNext rule format limit old) ⊎ EndsBy rule format limit (Some kind) old
slice_reader_error rule format limit kind old new failed (inl device) = absurd (never_fails kind failed device)
slice_reader_error rule format limit kind old new failed (inr (inl memory)) = inl (memory.0, (new, memory.1))
slice_reader_error rule format limit kind old new failed (inr (inr line)) = inr (new, line)

-- an allocation fails only where there are bytes, since at the end of a stream the device alone fails
pub memory_at_bytes : (raw : List ℕ) (kind : ErrorKind) → (Some raw ≡ Some [] → kind ≡ DeviceFailed) → kind ≡ OutOfMemory → 0 < length raw
memory_at_bytes [] kind end memory = let device : kind ≡ DeviceFailed = end refl in let never : OutOfMemory ≡ DeviceFailed = sym memory ∙ device in cc
memory_at_bytes (byte ∷ raw) kind end memory = omega arith

-- an encoding has bytes
pub found_in_bytes : (rule : Padding) (format : Format) (limit : Option ℕ) (m : List (List ℕ)) (raw rest : List ℕ) → FoundNext rule format limit m raw rest → 0 < length raw
found_in_bytes rule format limit m [] rest is_found = absurd ((format_parts rule format limit).ends_apart None m [] rest refl is_found)
found_in_bytes rule format limit m (byte ∷ raw) rest is_found = omega arith

-- and is read from more bytes than what follows it
moves_on_by : (rule : Padding) (format : Format) (limit : Option ℕ) (m : List (List ℕ)) (encoding raw rest : List ℕ) → grammar_of rule format encoding m → IsWithin m limit
    → raw ≡ encoding ++ rest → length rest < length raw
moves_on_by rule format limit m [] raw rest is_encoding within spelled = absurd ((format_parts rule format limit).ends_apart None m [] [] refl
    (record { encoding = []; is_encoding = is_encoding; within = within; spelled = refl }))
moves_on_by rule format limit m (byte ∷ encoding) raw rest is_encoding within spelled = omega (arith, ap length spelled, length-append (byte ∷ encoding) rest)

pub moves_on : (rule : Padding) (format : Format) (limit : Option ℕ) (m : List (List ℕ)) (raw rest : List ℕ) → FoundNext rule format limit m raw rest → length rest < length raw
moves_on rule format limit m raw rest is_found = moves_on_by rule format limit m is_found.encoding raw rest is_found.is_encoding is_found.within is_found.spelled

-- the kind of an error of memory is `OutOfMemory`
pub memory_kind : (error : Error) → IsMemoryError (Some error) → error.kind ≡ OutOfMemory
memory_kind error memory = cc

-- encodings are at the front of a stream
pub encodings_front : (IsEncoding : Grammar) (limit : Option ℕ) (ms : List (List (List ℕ))) (raw rest : List ℕ) → AreEncodings IsEncoding limit ms raw rest
    → (front : List ℕ) × (raw ≡ front ++ rest)
encodings_front IsEncoding limit [] raw rest encodings = ([], sym encodings)
encodings_front IsEncoding limit (m ∷ ms) raw rest (between, begins, encodings) =
    let inner = encodings_front IsEncoding limit ms between rest encodings in
    (begins.encoding ++ inner.0, begins.spelled ∙ ap (λ l. begins.encoding ++ l) inner.1 ∙ sym (append_assoc begins.encoding inner.0 rest))

drop-front : (front rest : List ℕ) → drop (length (front ++ rest) - length rest) (front ++ rest) ≡ rest
drop-front front rest =
    let len : length (front ++ rest) - length rest ≡ length front = omega (arith, length-append front rest) in
    ap (λ k. drop k (front ++ rest)) len ∙ drop-append_seam front rest

-- the length of what is left determines what is left
pub rest_is_dropped : (raw front rest : List ℕ) (end : ℕ) → raw ≡ front ++ rest → end ≡ length raw - length rest → drop end raw ≡ rest
rest_is_dropped raw front rest end is at = ap (λ k. drop k raw) at ∙ ap (λ l. drop (length l - length rest) l) is ∙ drop-front front rest

pub encodings_end : (IsEncoding : Grammar) (limit : Option ℕ) (ms : List (List (List ℕ))) (raw rest : List ℕ) (end : ℕ) → AreEncodings IsEncoding limit ms raw rest → end ≡ length raw - length rest
    → drop end raw ≡ rest
encodings_end IsEncoding limit ms raw rest end encodings at =
    let front = encodings_front IsEncoding limit ms raw rest encodings in rest_is_dropped raw front.0 rest end front.1 at

-- one list of messages, unless memory ran out
pub stream_is_one : (rule : Padding) (format : Format) (limit : Option ℕ) (ms ns : List (List (List ℕ))) (reason : Option Error) (raw rest : List ℕ)
    → AreEncodings (grammar_of rule format) limit ms raw rest → IsMemoryError reason ⊎ EndsBy rule format limit (kind_of reason) rest
    → (ending : Option ErrorKind) → IsStream rule format limit ns ending raw → IsMemoryError reason ⊎ (ms ≡ ns) × (kind_of reason ≡ ending)
stream_is_one rule format limit ms ns reason raw rest encodings (inl memory) ending stream = inl memory
stream_is_one rule format limit ms ns reason raw rest encodings (inr ends) ending stream =
    inr (stream_once rule format limit ms ns (kind_of reason) ending raw (record { rest = rest; encodings = encodings; ends = ends }) stream)

pub encodings_within : (IsEncoding : Grammar) (limit : Option ℕ) (ms : List (List (List ℕ))) (raw rest : List ℕ) → AreEncodings IsEncoding limit ms raw rest → length rest ≤ length raw
encodings_within IsEncoding limit ms raw rest encodings =
    let front = encodings_front IsEncoding limit ms raw rest encodings in
    omega (arith, ap length front.1, length-append front.0 rest)

-- one message more
pub next_encodings : (rule : Padding) (format : Format) (limit : Option ℕ) (ms ns : List (List (List ℕ))) (raw rest left : List ℕ) → AreEncodings (grammar_of rule format) limit ms raw rest
    → (message : List (List ℕ)) × FoundNext rule format limit message rest left × (ns ≡ ms ++ message ∷ []) → AreEncodings (grammar_of rule format) limit ns raw left
next_encodings rule format limit ms ns raw rest left encodings (message, is_found, more) =
    subst (λ l. AreEncodings (grammar_of rule format) limit l raw left) (sym more) (AreEncodings-push (grammar_of rule format) limit ms message raw rest left encodings is_found)

pub stream_error_ends : (error : Error) (P T Q : Type 0) → ((error.kind ≡ OutOfMemory) × T) ⊎ Q → (IsMemoryError (Some error) × (P → T)) ⊎ Q
stream_error_ends error P T Q (inl memory) = inl (ap Some memory.0, λ few. memory.1)
stream_error_ends error P T Q (inr ends) = inr ends

-- where the stream ends, or an allocation failed
pub ends_or_memory : (rule : Padding) (format : Format) (limit : Option ℕ) (reason : Option Error) (raw rest : List ℕ) → EndsReading rule format limit reason raw rest
    → IsMemoryError reason ⊎ EndsBy rule format limit (kind_of reason) rest
ends_or_memory rule format limit reason raw rest (inl memory) = inl memory.0
ends_or_memory rule format limit reason raw rest (inr ends) = inr ends

-- What is returned where the reading stops.
pub reading_ended : (rule : Padding) (format : Format) (limit : Option ℕ) (ms ns : List (List (List ℕ))) (reason : Option Error) (raw rest : List ℕ) (end : ℕ)
    → ns ≡ ms → AreEncodings (grammar_of rule format) limit ms raw rest → end ≡ length raw - length rest → EndsReading rule format limit reason raw rest
    → (end ≤ length raw) × AreEncodings (grammar_of rule format) limit ns raw (drop end raw) × EndsReading rule format limit reason raw (drop end raw)
    × ((messages : List (List (List ℕ))) (ending : Option ErrorKind) → IsStream rule format limit messages ending raw → IsMemoryError reason ⊎ (ns ≡ messages) × (kind_of reason ≡ ending))
reading_ended rule format limit ms ns reason raw rest end same encodings at ends =
    let left : drop end raw ≡ rest = encodings_end (grammar_of rule format) limit ms raw rest end encodings at in
    let reported = subst (λ l. AreEncodings (grammar_of rule format) limit l raw rest) (sym same) encodings in (
      omega (arith, at),
      subst (λ l. AreEncodings (grammar_of rule format) limit ns raw l) (sym left) reported,
      subst (λ l. EndsReading rule format limit reason raw l) (sym left) ends,
      λ messages ending stream.
          stream_is_one rule format limit ns messages reason raw rest reported (ends_or_memory rule format limit reason raw rest ends) ending stream,
    )
