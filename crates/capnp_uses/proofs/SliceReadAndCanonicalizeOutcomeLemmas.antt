-- Readers of bytes in memory return the one message that is there, and the canonical form of its root, or fail by
-- the table of errors.
use Rattle.std.proofs.Common.{◌≡◌, ◌⊎◌, inl, inr, ◌<◌, ℕ, List, [], Option, Some, None, Result, Ok, Err, IsOk, IfOk, IfErr, MatchResult, refl, sym, ap, subst, arith}
use Rattle.std.specs.Prelude.{IfNone, IsSomeAnd, IsOkAnd}
use Rattle.capnp_frame.specs.declared.serialize.segment_table.Padding.TheVariants.{Zero}
use Rattle.capnp_frame.specs.declared.error.Error.{Error}
use Rattle.capnp_frame.specs.declared.error.ErrorKind.{ErrorKind}
use Rattle.capnp_frame.specs.declared.error.ErrorKind.TheVariants.{DeviceFailed, OutOfMemory}
use Rattle.capnp_frame.specs.Prelude.{default_limit, Fails, Splits, RunsShort, RulesError, no_alloc_rules, next_in, TakesMemory}
use Rattle.capnp_frame.specs.declared.message.options.ReaderOptions.{ReaderOptions}
use Rattle.capnp_frame.specs.declared.message.options.TheConstants.{DEFAULT_READER_OPTIONS}
use Rattle.capnp_wire.specs.Prelude.{nesting_of, default_root, Pointer, IsCanonicalForm}
use Rattle.capnp_message.specs.Seen.{root_of}
use Rattle.capnp_message.specs.Canonical.{CanonicalFormError}
use Rattle.capnp.specs.declared.streams.Format.{Format}
use Rattle.capnp.specs.Prelude.{grammar_of, gives_of, BeginsFramed, FoundNext, NextError, TakesForNext, EndsBy, IsPlainSource, ReturnsEncodings}
use Rattle.capnp.proofs.RunOutputMessageByMessageLemmas.{format_lawful, format_requested, format_parts}
use Rattle.capnp.proofs.SourceEncodingLemmas.{nothing_begins}
use Rattle.capnp_uses.proofs.AppendedMessagesReadBackLemmas.{memory_only}
use Rattle.capnp.proofs.SliceStreamReadToItsEndLemmas.{slice_reader_error}
use Rattle.capnp_frame.proofs.sources.JoinedCallsAdvanceSourceLemmas.{never_fails}
use Rattle.capnp_uses.specs.Reading.{ReturnsCanonical}

-- a slice is a plain source
pub slices_are_plain : IsPlainSource Splits RunsShort
slices_are_plain = record { given = λ raw n bytes rest. (λ p. p, λ p. p); errors = λ raw n kind. (λ p. p, λ p. p) }

-- a reader that asks for memory, or returns that there is nothing
pub nothing_or_memory : {X : Type 0} (segments : X → List (List ℕ)) (format : Format) (limit : Option ℕ) (bytes left : List ℕ) (r : Result (Option X) Error)
    → ReturnsEncodings (grammar_of Zero format) limit (Some bytes) (Some left) (next_in segments r)
    → IfOk (next_in segments r) (λ found. IfNone found (bytes ≡ []))
    → IfErr (next_in segments r) (λ e. e.kind ≡ DeviceFailed → Fails 0 0)
    → (message : List (List ℕ)) (rest : List ℕ) → FoundNext Zero format limit message bytes rest
    → MatchResult r (λ found. IsSomeAnd found (λ x. segments x ≡ message)) (λ e. e.kind ≡ OutOfMemory)
nothing_or_memory segments format limit bytes left (Ok None) encodings none failed message rest begins =
    absurd (nothing_begins Zero (format_lawful format) (format_requested Zero format) limit (λ m. ⊥) (Some bytes) none message rest begins)
nothing_or_memory segments format limit bytes left (Ok (Some x)) encodings none failed message rest begins =
    ((format_parts Zero format limit).begins_once (segments x) message bytes left rest encodings.found begins).0
nothing_or_memory segments format limit bytes left (Err e) encodings none failed message rest begins =
    memory_only e.kind (encodings.accepted message rest begins) failed

-- and where there are no bytes it succeeds
pub succeeds_at_none : {X : Type 0} (segments : X → List (List ℕ)) (bytes : List ℕ) (r : Result (Option X) Error)
    → IfErr (next_in segments r) (λ e. Some bytes ≡ Some [] → e.kind ≡ DeviceFailed) → IfErr (next_in segments r) (λ e. e.kind ≡ DeviceFailed → Fails 0 0)
    → bytes ≡ [] → IsOk r
succeeds_at_none segments bytes (Ok found) end failed empty = refl
succeeds_at_none segments bytes (Err e) end failed empty = absurd (never_fails e.kind failed (end (ap Some empty)))

-- else it is out of memory where it takes some, or fails by a line of the table of errors
pub next_error : {X : Type 0} (segments : X → List (List ℕ)) (format : Format) (limit : Option ℕ) (bytes left : List ℕ) (r : Result (Option X) Error)
    → IfErr (next_in segments r) (λ e. e.kind ≡ DeviceFailed → Fails 0 0)
    → IfErr (next_in segments r) (λ e. (e.kind ≡ DeviceFailed) ⊎ ((e.kind ≡ OutOfMemory) × TakesMemory Zero (gives_of format) limit bytes left)
    ⊎ NextError Zero format limit e.kind bytes left)
    → IfErr r (λ e. ((e.kind ≡ OutOfMemory) × TakesForNext Zero format limit bytes) ⊎ EndsBy Zero format limit (Some e.kind) bytes)
next_error segments format limit bytes left (Ok found) failed errors = tt
next_error segments format limit bytes left (Err e) failed errors = slice_reader_error Zero format limit e.kind bytes left failed errors

-- and one that asks for none
pub exactly_provided : {X : Type 0} (segments : X → List (List ℕ)) (format : Format) (limit : Option ℕ) (bytes left : List ℕ) (r : Result X Error)
    → IfOk r (λ x. FoundNext Zero format limit (segments x) bytes left)
    → ((message : List (List ℕ)) (rest : List ℕ) → FoundNext Zero format limit message bytes rest → IsOk r)
    → (message : List (List ℕ)) (rest : List ℕ) → FoundNext Zero format limit message bytes rest
    → IsOkAnd r (λ x. segments x ≡ message)
exactly_provided segments format limit bytes left (Ok x) found accepted message rest begins =
    ((format_parts Zero format limit).begins_once (segments x) message bytes left rest found begins).0
exactly_provided {X} segments format limit bytes left (Err e) found accepted message rest begins = let is_ok : IsOk {T = X} {E = Error} (Err e) = accepted message rest begins in cc

-- The root that a reader of the default options follows
pub root_is_default : (m message : List (List ℕ)) (options : ReaderOptions) → m ≡ message → options ≡ DEFAULT_READER_OPTIONS
    → root_of (λ segments. segments) (record { segments = m; options = options }) ≡ default_root message
root_is_default m message options same is =
    subst (λ o. root_of (λ segments. segments) (record { segments = m; options = o }) ≡ default_root message) (sym is) (ap default_root same)

-- and its canonical form
pub form_of_root : {X : Type 0} (numbers_of : X → List ℕ) (Q : Error → Type 0) (r : Result X Error) (pointer other : Pointer) → pointer ≡ other
    → MatchResult r (λ x. IsCanonicalForm pointer (numbers_of x)) Q → IfOk r (λ x. IsCanonicalForm other (numbers_of x))
form_of_root numbers_of Q (Ok x) pointer other same returned = subst (λ p. IsCanonicalForm p (numbers_of x)) same returned
form_of_root numbers_of Q (Err e) pointer other same returned = tt

pub form_is_found : {X : Type 0} (numbers_of : X → List ℕ) (m : List (List ℕ)) (bytes : List ℕ) (r : Result X Error) → (rest : List ℕ) × BeginsFramed Zero default_limit m bytes rest
    → IfOk r (λ x. IsCanonicalForm (default_root m) (numbers_of x))
    → IfOk r (λ x. (message : List (List ℕ)) × (rest : List ℕ) × BeginsFramed Zero default_limit message bytes rest × IsCanonicalForm (default_root message) (numbers_of x))
form_is_found numbers_of m bytes (Ok x) begins form = (m, begins.0, begins.1, form)
form_is_found numbers_of m bytes (Err e) begins form = tt

-- where no message is there
pub no_message_no_form : {X : Type 0} (numbers_of : X → List ℕ) (bytes : List ℕ) (error : Error) → ((message : List (List ℕ)) (rest : List ℕ) → BeginsFramed Zero default_limit message bytes rest → ⊥)
    → RulesError (no_alloc_rules Zero default_limit) error.kind bytes → ReturnsCanonical bytes numbers_of (Err error)
no_message_no_form numbers_of bytes error none errors = record {
  is_found = tt;
  form = λ message rest begins. tt;
  found = λ message rest begins form. absurd (none message rest begins);
  errors = inl errors;
}

-- why it has none
pub no_form_error : {X : Type 0} (is_form : X → Type 0) (pointer : Pointer) (m : List (List ℕ)) (bytes : List ℕ) (Q : ErrorKind → Type 0) (r : Result X Error)
    → pointer ≡ default_root m → (rest : List ℕ) × BeginsFramed Zero default_limit m bytes rest
    → MatchResult r is_form (λ e. CanonicalFormError pointer e.kind ⊎ (e.kind ≡ OutOfMemory))
    → IfErr r (λ e. Q e.kind ⊎ ((message : List (List ℕ)) × (rest : List ℕ) × BeginsFramed Zero default_limit message bytes rest
    × (CanonicalFormError (default_root message) e.kind ⊎ (e.kind ≡ OutOfMemory))))
no_form_error is_form pointer m bytes Q (Ok x) same begins returned = tt
no_form_error is_form pointer m bytes Q (Err e) same begins (inl form_error) =
    inr (m, begins.0, begins.1, inl (subst (λ p. CanonicalFormError p e.kind) same form_error))
no_form_error is_form pointer m bytes Q (Err e) same begins (inr memory) = inr (m, begins.0, begins.1, inr memory)

-- an object may be at that root
pub default_depth : (options : ReaderOptions) → options ≡ DEFAULT_READER_OPTIONS → 0 < nesting_of options.nesting_limit
default_depth options is = subst (λ (o : ReaderOptions). 0 < nesting_of o.nesting_limit) (sym is) (omega arith)
