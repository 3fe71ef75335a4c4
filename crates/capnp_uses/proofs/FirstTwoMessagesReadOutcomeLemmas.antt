-- What reading the first two messages of a stream by an iterator returns: both, none where there are fewer, or the
-- error of the first or second.
use Rattle.std.proofs.Common.{◌≡◌, ◌⊎◌, inl, inr, ℕ, ◌<◌, List, [], Option, Some, None, Result, Ok, Err, refl, sym, ap, ◌∙◌, subst, arith}
use Rattle.capnp_frame.specs.declared.error.Error.{Error}
use Rattle.capnp_frame.specs.declared.error.ErrorKind.TheVariants.{DeviceFailed, OutOfMemory}
use Rattle.capnp_frame.specs.declared.io.Read.{Ghosts}
use Rattle.capnp_frame.specs.declared.message.options.ReaderOptions.{ReaderOptions}
use Rattle.capnp_frame.specs.declared.serialize.segment_table.Padding.{Padding}
use Rattle.capnp_frame.specs.declared.serialize.segment_table.Padding.TheVariants.{Zero}
use Rattle.capnp_frame.specs.Prelude.{default_limit, IfKnown, Fails, ReadsStream}
use Rattle.capnp_frame.proofs.sources.JoinedCallsAdvanceSourceLemmas.{never_fails}
use Rattle.capnp.specs.declared.streams.Format.{Format}
use Rattle.capnp.specs.declared.streams.message_stream.MessageStream.{MessageStream}
use Rattle.capnp.specs.Prelude.{source_of, messages_left, HasSettings, IsNewStream, read_in, GivesMessage, rules_of, FoundNext}
use Rattle.capnp.proofs.ReaderOutcomeByFormatRulesLemmas.{found_next}
use Rattle.capnp.proofs.SourceEncodingLemmas.{nothing_begins}
use Rattle.capnp.proofs.RunOutputMessageByMessageLemmas.{format_lawful, format_requested, format_parts}
use Rattle.capnp_uses.specs.Streaming.{BeginWith, NextMessageError, ReadsTwo}

-- while it has not ended, an iterator reads by its settings
reads_by : {S X : Type 0} {shown : S → List ℕ} (source : Ghosts S) (segments : X → List (List ℕ)) (options_of : X → ReaderOptions) (old new : MessageStream S) (given : Option (Result X Error))
    (format : Format) (padding : Padding) (options : ReaderOptions) (from : S) → GivesMessage source shown segments options_of old given new → source_of old ≡ from
    → HasSettings old format padding options → 0 < messages_left old
    → ReadsStream source from (source_of new) (rules_of padding format) options.traversal_limit_in_words (read_in segments given)
reads_by {S} source segments options_of old new given format padding options from gives from_is settings some =
    let result = read_in segments given in
    let limit = old.options.traversal_limit_in_words in
    let ruled = subst (λ (p : Padding). ReadsStream source (source_of old) (source_of new) (rules_of p old.format) limit result) settings.padding_is (gives.reads some) in
    let formed = subst (λ (f : Format). ReadsStream source (source_of old) (source_of new) (rules_of padding f) limit result) settings.format_is ruled in
    let limited = subst (λ (o : ReaderOptions). ReadsStream source (source_of old) (source_of new) (rules_of padding format) o.traversal_limit_in_words result) settings.options_are formed in
    subst (λ (s : S). ReadsStream source s (source_of new) (rules_of padding format) options.traversal_limit_in_words result) from_is limited

-- which it keeps
settings_kept : {S X : Type 0} {shown : S → List ℕ} (source : Ghosts S) (segments : X → List (List ℕ)) (options_of : X → ReaderOptions) (old new : MessageStream S) (given : Option (Result X Error))
    (format : Format) (padding : Padding) (options : ReaderOptions) → GivesMessage source shown segments options_of old given new → HasSettings old format padding options
    → HasSettings new format padding options
settings_kept source segments options_of old new given format padding options gives settings = record {
  format_is = gives.settings.format_is ∙ settings.format_is;
  padding_is = gives.settings.padding_is ∙ settings.padding_is;
  options_are = gives.settings.options_are ∙ settings.options_are;
}

-- so a new one reads its first item from the source that it was made of
pub reads_new : {S X : Type 0} {shown : S → List ℕ} (source : Ghosts S) (segments : X → List (List ℕ)) (options_of : X → ReaderOptions) (old new : MessageStream S) (given : Option (Result X Error))
    (format : Format) (padding : Padding) (options : ReaderOptions) (from : S) → GivesMessage source shown segments options_of old given new → source_of old ≡ from
    → IsNewStream old format padding options
    → ReadsStream source from (source_of new) (rules_of padding format) options.traversal_limit_in_words (read_in segments given)
reads_new source segments options_of old new given format padding options from gives from_is begins =
    let some : 0 < messages_left old = omega (arith, begins.left) in
    reads_by source segments options_of old new given format padding options from gives from_is begins.settings some

-- and after a message the second item from where the first message ends
pub reads_second : {S X : Type 0} {shown : S → List ℕ} (source : Ghosts S) (segments : X → List (List ℕ)) (options_of : X → ReaderOptions) (old mid new : MessageStream S) (one : X)
    (given : Option (Result X Error)) (format : Format) (padding : Padding) (options : ReaderOptions) (from : S)
    → GivesMessage source shown segments options_of old (Some (Ok one)) mid → source_of old ≡ from → IsNewStream old format padding options
    → GivesMessage source shown segments options_of mid given new
    → IfKnown (source.unread from) (source.unread (source_of mid)) (FoundNext padding format options.traversal_limit_in_words (segments one))
    × ReadsStream source (source_of mid) (source_of new) (rules_of padding format) options.traversal_limit_in_words (read_in segments given)
reads_second source segments options_of old mid new one given format padding options from first from_is begins second =
    let reads = reads_new source segments options_of old mid (Some (Ok one)) format padding options from first from_is begins in
    let settings = settings_kept source segments options_of old mid (Some (Ok one)) format padding options first begins.settings in
    let more : 0 < messages_left mid = omega (arith, begins.left, first.goes_on) in (
      found_next padding format options.traversal_limit_in_words (segments one) (source.unread from) (source.unread (source_of mid)) reads.within reads.found,
      reads_by source segments options_of mid new given format padding options (source_of mid) second refl settings more,
    )

-- nothing begins where nothing is unread
pub never : (format : Format) (limit : Option ℕ) (message : List (List ℕ)) (stream rest : List ℕ) → stream ≡ [] → FoundNext Zero format limit message stream rest → ⊥
never format limit message stream rest none begins =
    nothing_begins Zero (format_lawful format) (format_requested Zero format) limit (λ m. ⊥) (Some stream) none message rest begins

-- the first message is the one that is read, and the second one begins where it ends
first_is : (format : Format) (read first second : List (List ℕ)) (stream mid rest : List ℕ) → FoundNext Zero format default_limit read stream mid → BeginWith format first second stream rest
    → (read ≡ first) × ((left : List ℕ) × FoundNext Zero format default_limit second mid left)
first_is format read first second stream mid rest is_found (between, begins, (left, next, is)) =
    let same = (format_parts Zero format default_limit).begins_once read first stream mid between is_found begins in
    (same.0, (left, subst (λ (l : List ℕ). FoundNext Zero format default_limit second l left) (sym same.1) next))

-- What is returned, by where the reading ends.

pub none_at_all : {X : Type 0} (format : Format) (stream : List ℕ) (segments : X → List (List ℕ)) → stream ≡ [] → ReadsTwo format stream segments (Ok None)
none_at_all format stream segments none = record {
  found = tt;
  none = inl none;
  accepted = λ first second rest (between, begins, others). absurd (never format default_limit first stream between none begins);
  empty = λ is. refl;
  errors = tt;
}

pub fails_at_once : {X : Type 0} (format : Format) (stream : List ℕ) (segments : X → List (List ℕ)) (error : Error)
    → (error.kind ≡ DeviceFailed → Fails 0 0) → (Some stream ≡ Some [] → error.kind ≡ DeviceFailed)
    → NextMessageError format error.kind stream
    → ((message : List (List ℕ)) (rest : List ℕ) → FoundNext Zero format default_limit message stream rest → error.kind ≡ OutOfMemory)
    → ReadsTwo format stream segments (Err error)
fails_at_once format stream segments error failed end fails memory = record {
  found = tt;
  none = tt;
  accepted = λ first second rest (between, begins, others). memory first between begins;
  empty = λ none. absurd (never_fails error.kind failed (end (ap Some none)));
  errors = inl fails;
}

pub none_after : {X : Type 0} (format : Format) (stream mid : List ℕ) (segments : X → List (List ℕ)) (one : X) → FoundNext Zero format default_limit (segments one) stream mid → mid ≡ []
    → ReadsTwo format stream segments (Ok None)
none_after format stream mid segments one is_found none = record {
  found = tt;
  none = inr (segments one, subst (λ (l : List ℕ). FoundNext Zero format default_limit (segments one) stream l) none is_found);
  accepted = λ first second rest begin.
      let next = first_is format (segments one) first second stream mid rest is_found begin in
      absurd (never format default_limit second mid next.1.0 none next.1.1);
  empty = λ is. refl;
  errors = tt;
}

pub second_fails_after : {X : Type 0} (format : Format) (stream mid : List ℕ) (segments : X → List (List ℕ)) (one : X) (error : Error) → FoundNext Zero format default_limit (segments one) stream mid
    → NextMessageError format error.kind mid
    → ((message : List (List ℕ)) (rest : List ℕ) → FoundNext Zero format default_limit message mid rest → error.kind ≡ OutOfMemory)
    → ReadsTwo format stream segments (Err error)
second_fails_after format stream mid segments one error is_found fails memory = record {
  found = tt;
  none = tt;
  accepted = λ first second rest begin.
      let next = first_is format (segments one) first second stream mid rest is_found begin in
      memory second next.1.0 next.1.1;
  empty = λ none. absurd (never format default_limit (segments one) stream mid none is_found);
  errors = inr (segments one, mid, is_found, fails);
}

pub both : {X : Type 0} (format : Format) (stream mid left : List ℕ) (segments : X → List (List ℕ)) (one other : X) → FoundNext Zero format default_limit (segments one) stream mid
    → FoundNext Zero format default_limit (segments other) mid left → ReadsTwo format stream segments (Ok (Some (one, other)))
both format stream mid left segments one other is_found follows = record {
  found = (left, (mid, is_found, (left, follows, refl)));
  none = tt;
  accepted = λ first second rest begin.
      let next = first_is format (segments one) first second stream mid rest is_found begin in
      let same = (format_parts Zero format default_limit).begins_once (segments other) second mid left next.1.0 follows next.1.1 in
      (next.0, same.0);
  empty = λ is. refl;
  errors = tt;
}
