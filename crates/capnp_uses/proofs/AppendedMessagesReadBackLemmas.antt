-- Messages that are written one after the other, and read back.
use Rattle.std.proofs.Common.{◌≡◌, ◌⊎◌, inl, inr, ℕ, ◌+◌, ◌-◌, ◌^◌, ◌≤◌, min, Option, Some, None, Ok, List, [], ◌∷◌, ◌++◌, length, map, refl, sym, ap, ◌∙◌, subst, arith}
use Rattle.std.proofs.lemmas.List.{length-map}
use Rattle.std.specs.List.{AllByRecursion}
use Rattle.capnp_frame.specs.declared.serialize.segment_table.Padding.{Padding}
use Rattle.capnp_frame.specs.declared.error.ErrorKind.{ErrorKind}
use Rattle.capnp_frame.specs.declared.error.ErrorKind.TheVariants.{DeviceFailed, OutOfMemory}
use Rattle.capnp_frame.specs.declared.io.Read.{Ghosts}
use Rattle.capnp_frame.specs.Prelude.{Adds, ByKind, KeepsLimit, lengths, Giving, Refusing, Fails, next_in, ReadsStream, Grammar, AreEncodings, IsWritable, IsWithinSegmentLimit}
use Rattle.capnp_frame.proofs.sources.JoinedRequestPartsLemmas.{IfKnown-weaker}
use Rattle.capnp_frame.proofs.encodings.UniqueDivisionIntoEncodingsLemmas.{PartsStreams}
use Rattle.capnp.specs.declared.streams.Format.{Format}
use Rattle.capnp.specs.Prelude.{grammar_of, rules_of, IsEncodingOf, ErrorsAs, AppendsEach, SegmentCountErrorIn, OneOfError}
use Rattle.capnp.proofs.MemoryWriteErrorLemmas.{format_memory}
use Rattle.capnp.proofs.RunOutputMessageByMessageLemmas.{format_lawful, format_requested, format_parts}
use Rattle.capnp.proofs.SourceEncodingLemmas.{nothing_found}
use Rattle.capnp.proofs.MessageSequenceReadBackLemmas.{appended_encodings}

-- as many encodings at the front of the same bytes are of the same messages, and leave the same rest
encodings_same : {IsEncoding : Grammar} {rule : Padding} {gives : Giving} {refuses : Refusing} {limit : Option ℕ}
    → PartsStreams IsEncoding rule gives refuses limit
    → (ns ms : List (List (List ℕ))) (raw left rest : List ℕ) → AreEncodings IsEncoding limit ns raw left
    → AreEncodings IsEncoding limit ms raw rest → length ns ≡ length ms → (ns ≡ ms) × (left ≡ rest)
encodings_same parts [] [] raw left rest had encodings many = (refl, had ∙ sym encodings)
encodings_same parts [] (m ∷ ms) raw left rest had encodings many = absurd (omega arith)
encodings_same parts (n ∷ ns) [] raw left rest had encodings many = absurd (omega arith)
encodings_same {IsEncoding} {limit = limit} parts (n ∷ ns) (m ∷ ms) raw left rest had encodings many =
    let same = parts.begins_once n m raw had.0 encodings.0 had.1 encodings.1 in
    let inner = encodings_same parts ns ms encodings.0 left rest (subst (λ l. AreEncodings IsEncoding limit ns l left) same.1 had.2) encodings.2 (omega arith) in
    (ap (λ x. x ∷ ns) same.0 ∙ ap (λ l. m ∷ l) inner.0, inner.1)

-- what was appended to nothing is what was written
pub appended_alone : (P : List ℕ → Type 0) (start new : List ℕ) → start ≡ [] → Adds P start new → P new
appended_alone P start new none (encoding, holds, e) = subst P (sym (e ∙ ap (λ l. l ++ encoding) none)) holds

-- what was appended to nothing is the encodings of these messages
pub read_encodings : (rule : Padding) (format : Format) (limit : Option ℕ) (ms : List (List (List ℕ))) (start new shown : List ℕ)
    → start ≡ [] → shown ≡ new → AllByRecursion IsWritable ms → AllByRecursion IsWithinSegmentLimit ms
    → AllByRecursion (λ m. KeepsLimit (lengths m) limit) ms → Adds (AppendsEach (IsEncodingOf format) ms) start new
    → AreEncodings (grammar_of rule format) limit ms shown []
read_encodings rule format limit ms start new shown none same writable few size (encoding, all, e) =
    subst (λ l. AreEncodings (grammar_of rule format) limit ms l []) (ap (λ l. l ++ encoding) (sym none) ∙ sym e ∙ sym same)
    (appended_encodings rule format limit ms encoding writable few size all)

-- and just these are read of it
pub read_same : {X S : Type 0} (rule : Padding) (format : Format) (limit : Option ℕ) (segments : X → List (List ℕ))
    (of : S → List (List ℕ)) (xs : List X) (ms : List S) (raw left : List ℕ)
    → AreEncodings (grammar_of rule format) limit (map segments xs) raw left
    → AreEncodings (grammar_of rule format) limit (map of ms) raw [] → length xs ≡ length ms
    → (map segments xs ≡ map of ms) × (left ≡ [])
read_same rule format limit segments of xs ms raw left had encodings many =
    encodings_same (format_parts rule format limit) (map segments xs) (map of ms) raw left [] had encodings
    (length-map xs segments ∙ many ∙ sym (length-map ms of))

-- after them none is
pub no_message_left : {S X : Type 0} (rule : Padding) (format : Format) (limit : Option ℕ) (segments : X → List (List ℕ)) (end : Option X)
    (source : Ghosts S) (old new : S) → source.unread old ≡ Some []
    → ReadsStream source old new (rules_of rule format) limit (next_in segments (Ok end)) → end ≡ None
no_message_left rule format limit segments None source old new none reads = refl
no_message_left rule format limit segments (Some x) source old new none reads = absurd (nothing_found rule (format_lawful format) (segments x) (source.unread old) (source.unread new) none
    (IfKnown-weaker (source.unread old) (source.unread new) (λ raw rest. (format_requested rule format (segments x) raw rest).1) reads.found))

-- appending to a vector fails for too many segments, or when out of memory
pub appending_memory : (format : Format) (ms : List (List (List ℕ))) (kind : ErrorKind) → AllByRecursion IsWritable ms → (kind ≡ DeviceFailed → Fails 0 0)
    → OneOfError (ErrorsAs format (ByKind OutOfMemory)) ms kind → SegmentCountErrorIn ms kind ⊎ (kind ≡ OutOfMemory)
appending_memory format [] kind writable failed errors = absurd errors
appending_memory format (m ∷ ms) kind writable failed (inl errors) = elim (format_memory format m kind writable.0 errors failed) [
  | inl many ↦ inl (inl many)
  | inr memory ↦ inr memory
]
appending_memory format (m ∷ ms) kind writable failed (inr later) = elim (appending_memory format ms kind writable.1 failed later) [
  | inl many ↦ inl (inr many)
  | inr memory ↦ inr memory
]

pub memory_only : (kind : ErrorKind) → (kind ≡ DeviceFailed) ⊎ (kind ≡ OutOfMemory) → (kind ≡ DeviceFailed → min (0 + 1) (2 ^ 64 - 1) ≤ 0) → kind ≡ OutOfMemory
memory_only kind (inl device) failed = let fails = failed device in absurd (omega arith)
memory_only kind (inr memory) failed = memory
