-- What is read of a device whose bytes are known.
use Rattle.std.proofs.Common.{◌≡◌, ◌⊎◌, inl, inr, ℕ, ◌<◌, List, [], ◌∷◌, length, Option, Some, None, IfSome, Result, Ok, Err, IfOk, IfErr, refl, ap, ◌∙◌, subst, arith}
use Rattle.std.specs.Prelude.{IsSomeAnd}
use Rattle.capnp_frame.specs.declared.error.Error.{Error}
use Rattle.capnp_frame.specs.declared.error.ErrorKind.{ErrorKind}
use Rattle.capnp_frame.specs.declared.error.ErrorKind.TheVariants.{DeviceFailed, OutOfMemory}
use Rattle.capnp_frame.specs.declared.io.Read.{Ghosts}
use Rattle.capnp_frame.specs.declared.serialize.segment_table.Padding.TheVariants.{Zero}
use Rattle.capnp_frame.specs.Prelude.{IfKnown, Fails, next_in, ReadsStream, AreEncodings, TakesMemory}
use Rattle.capnp.specs.declared.streams.Format.{Format}
use Rattle.capnp.specs.Prelude.{ExternalError, ReturnsEncodings, grammar_of, gives_of, rules_of, FoundNext, NextError, IsStream}
use Rattle.capnp.proofs.StreamEndByRunResultLemmas.{stream_once}
use Rattle.capnp.proofs.RunOutputMessageByMessageLemmas.{format_parts}
use Rattle.capnp_uses.specs.Devices.{ReadsFirst, ReadsAll}
use Rattle.capnp_uses.proofs.FirstTwoMessagesReadOutcomeLemmas.{never}

-- what holds of bytes that are known
for_known : (known : Option (List ℕ)) (P : List ℕ → Type 0) → ((bytes : List ℕ) → known ≡ Some bytes → P bytes) → IfSome known P
for_known None P each = tt
for_known (Some bytes) P each = each bytes refl

at_known : (P : List ℕ → Type 0) (known : Option (List ℕ)) (bytes : List ℕ) → known ≡ Some bytes → IfSome known P → P bytes
at_known P known bytes is holds = subst (λ (o : Option (List ℕ)). IfSome o P) is holds

rest_of : (P : List ℕ → Type 0) (new : Option (List ℕ)) → IsSomeAnd new P → (rest : List ℕ) × P rest
rest_of P None known = absurd known
rest_of P (Some rest) known = (rest, known)

rest_after : (P : List ℕ → List ℕ → Type 0) (old new : Option (List ℕ)) (bytes : List ℕ) → old ≡ Some bytes → IfKnown old new P → (rest : List ℕ) × P bytes rest
rest_after P old new bytes is known = rest_of (P bytes) new (subst (λ (o : Option (List ℕ)). IfKnown o new P) is known)

-- a reader's reasons to fail
reasons : (kind : ErrorKind) (old new : Option (List ℕ)) (bytes : List ℕ) (T P : List ℕ → List ℕ → Type 0) → old ≡ Some bytes
    → (kind ≡ DeviceFailed) ⊎ ((kind ≡ OutOfMemory) × IfKnown old new T) ⊎ IfKnown old new P
    → (kind ≡ DeviceFailed) ⊎ ((kind ≡ OutOfMemory) × ((left : List ℕ) × T bytes left)) ⊎ ((left : List ℕ) × P bytes left)
reasons kind old new bytes T P is (inl device) = inl device
reasons kind old new bytes T P is (inr (inl (memory, taken))) = inr (inl (memory, rest_after T old new bytes is taken))
reasons kind old new bytes T P is (inr (inr line)) = inr (inr (rest_after P old new bytes is line))

external_or : {T : Type 0} (kind : ErrorKind) → (kind ≡ DeviceFailed) ⊎ (kind ≡ OutOfMemory) ⊎ T → ExternalError kind ⊎ T
external_or kind (inl device) = inl (inl device)
external_or kind (inr (inl memory)) = inl (inr memory)
external_or kind (inr (inr other)) = inr other

-- What the reader of the next message returns of these bytes is what `ReadsFirst` says.
first_of_bytes : {S : Type 0} (source : Ghosts S) (old new : S) (format : Format) (limit : Option ℕ) (r : Result (Option (List (List ℕ))) Error) (bytes : List ℕ)
    → source.unread old ≡ Some bytes → ReturnsEncodings (grammar_of Zero format) limit (source.unread old) (source.unread new) r
    → ReadsStream source old new (rules_of Zero format) limit r → ReadsFirst format limit r bytes
first_of_bytes source old new format limit (Ok None) bytes is encodings reads =
    let none : bytes ≡ [] = at_known (λ raw. raw ≡ []) (source.unread old) bytes is reads.none in
    record {
      found = tt;
      none = none;
      accepted = λ message rest begins. absurd (never format limit message bytes rest none begins);
      end = λ empty. refl;
      errors = tt;
      exact = λ kind (left, line). at_known _ (source.unread old) bytes is reads.exact kind left line;
    }
first_of_bytes source old new format limit (Ok (Some first)) bytes is encodings reads =
    let found : (rest : List ℕ) × FoundNext Zero format limit first bytes rest =
    rest_after (FoundNext Zero format limit first) (source.unread old) (source.unread new) bytes is encodings.found in
    record {
      found = found;
      none = tt;
      accepted = λ message rest begins. ap Some ((format_parts Zero format limit).begins_once first message bytes found.0 rest found.1 begins).0;
      end = λ empty. absurd (never format limit first bytes found.0 empty found.1);
      errors = tt;
      exact = λ kind (left, line). at_known _ (source.unread old) bytes is reads.exact kind left line;
    }
first_of_bytes source old new format limit (Err error) bytes is encodings reads = record {
  found = tt;
  none = tt;
  accepted = at_known _ (source.unread old) bytes is encodings.accepted;
  end = λ empty. let unread : source.unread old ≡ Some [] = cc in reads.end unread;
  errors = reasons error.kind (source.unread old) (source.unread new) bytes (TakesMemory Zero (gives_of format) limit)
      (NextError Zero format limit error.kind) is reads.errors;
  exact = λ kind (left, line). external_or error.kind (at_known _ (source.unread old) bytes is reads.exact kind left line);
}

pub reads_first : {S : Type 0} (source : Ghosts S) (old new : S) (format : Format) (limit : Option ℕ) (r : Result (Option (List (List ℕ))) Error) (known : Option (List ℕ))
    → source.unread old ≡ known → ReturnsEncodings (grammar_of Zero format) limit (source.unread old) (source.unread new) r
    → ReadsStream source old new (rules_of Zero format) limit r → IfSome known (ReadsFirst format limit r)
reads_first source old new format limit r known unread encodings reads =
    for_known known (ReadsFirst format limit r) (λ bytes is. first_of_bytes source old new format limit r bytes (unread ∙ is) encodings reads)

-- and leaves what follows
pub leaves_rest : {X : Type 0} (format : Format) (limit : Option ℕ) (segments : X → List (List ℕ)) (r : Result (Option X) Error) (known old new : Option (List ℕ)) → old ≡ known
    → ReturnsEncodings (grammar_of Zero format) limit old new (next_in segments r)
    → IfOk r (λ found. IfSome found (λ read. IfKnown known new (FoundNext Zero format limit (segments read))))
leaves_rest format limit segments (Err error) known old new same encodings = tt
leaves_rest format limit segments (Ok None) known old new same encodings = tt
leaves_rest format limit segments (Ok (Some read)) known old new same encodings =
    subst (λ (o : Option (List ℕ)). IfKnown o new (FoundNext Zero format limit (segments read))) same encodings.found

-- A reader fails with the device's failure only where the device fails.

pub failed_since : {X : Type 0} (r : Result X Error) (none before after : ℕ) → before ≡ none → IfErr r (λ error. error.kind ≡ DeviceFailed → Fails before after)
    → IfErr r (λ error. error.kind ≡ DeviceFailed → Fails none after)
failed_since r none before after same failed = subst (λ (n : ℕ). IfErr r (λ error. error.kind ≡ DeviceFailed → Fails n after)) same failed

pub failed_next : {X : Type 0} (segments : X → List (List ℕ)) (r : Result (Option X) Error) (before after : ℕ)
    → IfErr (next_in segments r) (λ error. error.kind ≡ DeviceFailed → Fails before after) → IfErr r (λ error. error.kind ≡ DeviceFailed → Fails before after)
failed_next segments (Ok found) before after failed = tt
failed_next segments (Err error) before after failed = failed

-- No bytes are encodings of no messages alone.
nothing_listed : (format : Format) (limit : Option ℕ) (ms : List (List (List ℕ))) (bytes rest : List ℕ) → AreEncodings (grammar_of Zero format) limit ms bytes rest
    → bytes ≡ [] → (ms ≡ []) × (rest ≡ [])
nothing_listed format limit [] bytes rest encodings none = (refl, encodings ∙ none)
nothing_listed format limit (m ∷ ms) bytes rest (between, begins, encodings) none = absurd (never format limit m bytes between none begins)

-- All messages are read, or the reader fails after some, or there is an external error.
all_read : {X : Type 0} (format : Format) (limit : Option ℕ) (messages : X → List (List (List ℕ))) (read : X) (bytes : List ℕ)
    → IsStream Zero format limit (messages read) None bytes → ReadsAll format limit messages (Ok read) bytes
all_read format limit messages read bytes stream = record {
  found = stream;
  end = λ none. (nothing_listed format limit (messages read) bytes stream.rest stream.encodings none).0;
  errors = tt;
  accepted = λ listed also. (stream_once Zero format limit (messages read) listed None None bytes stream also).0;
  exact = λ before kind also.
      let other : None ≡ Some kind = (stream_once Zero format limit (messages read) before None (Some kind) bytes stream also).1 in
      cc;
}

all_fail : {X : Type 0} (format : Format) (limit : Option ℕ) (messages : X → List (List (List ℕ))) (error : Error) (bytes : List ℕ)
    → (bytes ≡ [] → error.kind ≡ DeviceFailed)
    → ExternalError error.kind ⊎ ((before : List (List (List ℕ))) × IsStream Zero format limit before (Some error.kind) bytes)
    → ReadsAll format limit messages (Err error) bytes
all_fail format limit messages error bytes end (inl external) = record {
  found = tt;
  end = end;
  errors = inl external;
  accepted = λ listed also. external;
  exact = λ before kind also. inl external;
}
all_fail format limit messages error bytes end (inr (before, stream)) = record {
  found = tt;
  end = end;
  errors = inr (before, stream);
  accepted = λ listed also.
      let other : Some error.kind ≡ None = (stream_once Zero format limit before listed (Some error.kind) None bytes stream also).1 in
      cc;
  exact = λ others kind also.
      let same : Some error.kind ≡ Some kind = (stream_once Zero format limit before others (Some error.kind) (Some kind) bytes stream also).1 in
      let kinds : error.kind ≡ kind = cc in
      inr kinds;
}

-- What is returned where the reading stops: at the end of the bytes, where the reader fails, or for an external error.

pub reads_all : {X : Type 0} (format : Format) (limit : Option ℕ) (messages : X → List (List (List ℕ))) (read : X) (known unread : Option (List ℕ))
    → IfKnown known unread (AreEncodings (grammar_of Zero format) limit (messages read)) → IfSome unread (λ raw. raw ≡ [])
    → IfSome known (ReadsAll format limit messages (Ok read))
reads_all format limit messages read None unread encodings none = tt
reads_all format limit messages read (Some bytes) None encodings none = absurd encodings
reads_all format limit messages read (Some bytes) (Some rest) encodings none =
    all_read format limit messages read bytes (record { rest = rest; encodings = encodings; ends = none })

-- so of a device whose bytes are the source's
pub all_of_bytes : {X : Type 0} (format : Format) (limit : Option ℕ) (messages : X → List (List (List ℕ))) (r : Result X Error) (known unread : Option (List ℕ)) → unread ≡ known
    → IfSome unread (ReadsAll format limit messages r) → IfSome known (ReadsAll format limit messages r)
all_of_bytes format limit messages r known unread same reads = subst (λ (o : Option (List ℕ)). IfSome o (ReadsAll format limit messages r)) same reads

pub device_fails_after : {X : Type 0} (format : Format) (limit : Option ℕ) (messages : X → List (List (List ℕ))) (error : Error) (before : List (List (List ℕ)))
    (known unread new : Option (List ℕ)) (T : List ℕ → List ℕ → Type 0) → IfKnown known unread (AreEncodings (grammar_of Zero format) limit before)
    → (unread ≡ Some [] → error.kind ≡ DeviceFailed)
    → (error.kind ≡ DeviceFailed) ⊎ ((error.kind ≡ OutOfMemory) × IfKnown unread new T) ⊎ IfKnown unread new (NextError Zero format limit error.kind)
    → IfSome known (ReadsAll format limit messages (Err error))
device_fails_after format limit messages error before None unread new T encodings end errors = tt
device_fails_after format limit messages error before (Some bytes) None new T encodings end errors = absurd encodings
device_fails_after format limit messages error before (Some bytes) (Some rest) new T encodings end errors =
    all_fail format limit messages error bytes (λ none. end (ap Some (nothing_listed format limit before bytes rest encodings none).1))
    (elim (reasons error.kind (Some rest) new rest T (NextError Zero format limit error.kind) refl errors) [
      | inl device ↦ inl (inl device)
      | inr (inl memory) ↦ inl (inr memory.0)
      | inr (inr ends) ↦ inr (before, record { rest = rest; encodings = encodings; ends = ends })
    ])

-- A message was read, and the list has no memory for it.
pub fails_to_list : {X : Type 0} (format : Format) (limit : Option ℕ) (messages : X → List (List (List ℕ))) (error : Error) (before : List (List (List ℕ))) (message : List (List ℕ))
    (known unread new : Option (List ℕ)) → IfKnown known unread (AreEncodings (grammar_of Zero format) limit before)
    → IfKnown unread new (FoundNext Zero format limit message) → ExternalError error.kind → IfSome known (ReadsAll format limit messages (Err error))
fails_to_list format limit messages error before message None unread new encodings is_found external = tt
fails_to_list format limit messages error before message (Some bytes) None new encodings is_found external = absurd encodings
fails_to_list format limit messages error before message (Some bytes) (Some rest) None encodings is_found external = absurd is_found
fails_to_list format limit messages error before message (Some bytes) (Some rest) (Some left) encodings is_found external =
    all_fail format limit messages error bytes
    (λ none. absurd (never format limit message rest left (nothing_listed format limit before bytes rest encodings none).1 is_found)) (inl external)

-- The list is full, so a message past it isn't listed.
pub fails_past_full : {X : Type 0} (format : Format) (limit : Option ℕ) (messages : X → List (List (List ℕ))) (error : Error) (before : List (List (List ℕ)))
    (known unread : Option (List ℕ)) → IfKnown known unread (AreEncodings (grammar_of Zero format) limit before) → 0 < length before
    → ExternalError error.kind → IfSome known (ReadsAll format limit messages (Err error))
fails_past_full format limit messages error before None unread encodings many external = tt
fails_past_full format limit messages error before (Some bytes) None encodings many external = absurd encodings
fails_past_full format limit messages error before (Some bytes) (Some rest) encodings many external =
    all_fail format limit messages error bytes
    (λ none. absurd (omega (arith, many, ap length (nothing_listed format limit before bytes rest encodings none).0))) (inl external)
