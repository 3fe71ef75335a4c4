-- The outcomes of the private steps of stream readers, joined: what is found after a step that succeeded, and how
-- a step that fails is passed on.
use Rattle.std.proofs.Common.{◌≡◌, ◌⊎◌, inl, inr, ℕ, ◌<◌, ◌^◌, List, [], ◌∷◌, length, map, Option, Some, None, Result, Ok, Err, refl, sym, subst, ◌∙◌, arith}
use Rattle.std.proofs.lemmas.List.{length-map}
use Rattle.std.specs.Result.{IsErrAnd}
use Rattle.capnp_frame.specs.declared.error.Error.{Error}
use Rattle.capnp_frame.specs.declared.error.ErrorKind.{ErrorKind}
use Rattle.capnp_frame.specs.declared.error.ErrorKind.TheVariants.{DeviceFailed, OutOfMemory}
use Rattle.capnp_frame.specs.declared.serialize.segment_table.Padding.{Padding}
use Rattle.capnp_frame.specs.declared.io.Read.{Ghosts}
use Rattle.capnp_frame.specs.Prelude.{Giving, Refusing, IsSource, IfKnown, IsTail, RequestError, Advances, Asked, DeclaresAccepted, TakesForLengths, TableError, IsReaderKind, IsProvidedReaderKind, TableRestError, ReadsLengths, ReadsTable, AsksNext, AsksNextInto, range_len}
use Rattle.capnp_frame.proofs.sources.JoinedCallsAdvanceSourceLemmas.{Asked-ok, Asked-err}
use Rattle.capnp_frame.proofs.encodings.MessageFoundByRequestsLemmas.{word_not_empty}
use Rattle.capnp_frame.proofs.tables.TableFromTwoRequestsLemmas.{table_found}
use Rattle.capnp_frame.proofs.errors.ReaderErrorLineLemmas.{or_memory, rest_met, reader_kind, source_kind, lengths_taken}

-- a step that finds what comes next, after one that succeeded

pub asks_found : {S X : Type 0} (source : Ghosts S) (rule : Padding) (takes : List ℕ → List ℕ → Type 0)
    (lines : ErrorKind → List ℕ → List ℕ → Type 0) (a b c : S) (found : X)
    → (source.same a b → source.same b c → source.same a c) → Advances source.unread source.failures source.same a b
    → Advances source.unread source.failures source.same b c → AsksNext source a c rule takes lines (Ok (Some found))
asks_found source rule takes lines a b c found join first second = record {
  none = tt;
  errors = tt;
  kinds = tt;
  end = tt;
  asked = Asked-ok join first second;
}

pub asks_found_into : {S X : Type 0} (source : Ghosts S) (rule : Padding) (room : ℕ) (lines : ErrorKind → List ℕ → List ℕ → Type 0)
    (a b c : S) (found : X) → (room < 8 → ⊥) → (source.same a b → source.same b c → source.same a c)
    → Advances source.unread source.failures source.same a b → Advances source.unread source.failures source.same b c
    → AsksNextInto source a c rule room lines (Ok (Some found))
asks_found_into source rule room lines a b c found enough join first second = record {
  none = tt;
  short = λ few. absurd (enough few);
  errors = tt;
  kinds = tt;
  end = tt;
  asked = Asked-ok join first second;
}

-- and one that fails, after one that succeeded

pub asks_failed : {S X Y : Type 0} (source : Ghosts S) (rule : Padding) (takes : List ℕ → List ℕ → Type 0)
    (lines : ErrorKind → List ℕ → List ℕ → Type 0) (a b c : S) (error : Error) (result : Result (Option Y) Error)
    → (source.same a b → source.same b c → source.same a c) → IsErrAnd result (λ own. own ≡ error)
    → (error.kind ≡ DeviceFailed) ⊎ ((error.kind ≡ OutOfMemory) × IfKnown (source.unread a) (source.unread c) takes)
    ⊎ IfKnown (source.unread a) (source.unread c) (lines error.kind) → IsReaderKind rule source.refuses error.kind
    → (source.unread a ≡ Some [] → error.kind ≡ DeviceFailed)
    → Advances source.unread source.failures source.same a b
    → Asked {X = X} source.unread source.failures source.same b c (Err error) → AsksNext source a c rule takes lines result
asks_failed source rule takes lines a b c error (Ok found) join is errors kind end first second = absurd is
asks_failed {Y = Y} source rule takes lines a b c error (Err own) join is errors kind end first second =
    subst (λ e. AsksNext {X = Y} source a c rule takes lines (Err e)) (sym is) (record {
      none = tt;
      errors = errors;
      kinds = kind;
      end = end;
      asked = Asked-err join refl first second;
    })

pub asks_failed_into : {S X Y : Type 0} (source : Ghosts S) (rule : Padding) (room : ℕ) (lines : ErrorKind → List ℕ → List ℕ → Type 0)
    (a b c : S) (error : Error) (result : Result (Option Y) Error) → (room < 8 → ⊥)
    → (source.same a b → source.same b c → source.same a c) → IsErrAnd result (λ own. own ≡ error)
    → (error.kind ≡ DeviceFailed) ⊎ IfKnown (source.unread a) (source.unread c) (lines error.kind)
    → IsProvidedReaderKind rule source.refuses error.kind
    → (source.unread a ≡ Some [] → error.kind ≡ DeviceFailed)
    → Advances source.unread source.failures source.same a b
    → Asked {X = X} source.unread source.failures source.same b c (Err error) → AsksNextInto source a c rule room lines result
asks_failed_into source rule room lines a b c error (Ok found) enough join is errors kind end first second = absurd is
asks_failed_into {Y = Y} source rule room lines a b c error (Err own) enough join is errors kind end first second =
    subst (λ e. AsksNextInto {X = Y} source a c rule room lines (Err e)) (sym is) (record {
      none = tt;
      short = λ few. absurd (enough few);
      errors = errors;
      kinds = kind;
      end = λ nothing fits. end nothing;
      asked = Asked-err join refl first second;
    })

-- a failure that is passed on, where its lines are among the caller's

pub asks_passed : {S X Y : Type 0} (source : Ghosts S) (old new : S) (rule : Padding) (takes also : List ℕ → List ℕ → Type 0)
    (lines others : ErrorKind → List ℕ → List ℕ → Type 0) (error : Error) (result : Result (Option Y) Error)
    → IsErrAnd result (λ own. own ≡ error)
    → ((error.kind ≡ DeviceFailed) ⊎ ((error.kind ≡ OutOfMemory) × IfKnown (source.unread old) (source.unread new) takes)
    ⊎ IfKnown (source.unread old) (source.unread new) (lines error.kind)
    → (error.kind ≡ DeviceFailed) ⊎ ((error.kind ≡ OutOfMemory) × IfKnown (source.unread old) (source.unread new) also)
    ⊎ IfKnown (source.unread old) (source.unread new) (others error.kind))
    → AsksNext {X = X} source old new rule takes lines (Err error) → AsksNext source old new rule also others result
asks_passed source old new rule takes also lines others error (Ok found) is among reported = absurd is
asks_passed {Y = Y} source old new rule takes also lines others error (Err own) is among reported =
    subst (λ e. AsksNext {X = Y} source old new rule also others (Err e)) (sym is) (record {
      none = tt;
      errors = among reported.errors;
      kinds = reported.kinds;
      end = reported.end;
      asked = record { failed = reported.asked.failed; advances = reported.asked.advances };
    })

pub asks_passed_into : {S X Y : Type 0} (source : Ghosts S) (old new : S) (rule : Padding) (room : ℕ)
    (lines others : ErrorKind → List ℕ → List ℕ → Type 0) (error : Error) (result : Result (Option Y) Error)
    → IsErrAnd result (λ own. own ≡ error)
    → ((error.kind ≡ DeviceFailed) ⊎ IfKnown (source.unread old) (source.unread new) (lines error.kind)
    → (error.kind ≡ DeviceFailed) ⊎ IfKnown (source.unread old) (source.unread new) (others error.kind))
    → AsksNextInto {X = X} source old new rule room lines (Err error) → AsksNextInto source old new rule room others result
asks_passed_into source old new rule room lines others error (Ok found) is among reported = absurd is
asks_passed_into {Y = Y} source old new rule room lines others error (Err own) is among reported =
    subst (λ e. AsksNextInto {X = Y} source old new rule room others (Err e)) (sym is) (record {
      none = tt;
      short = reported.short;
      errors = among reported.errors;
      kinds = reported.kinds;
      end = reported.end;
      asked = record { failed = reported.asked.failed; advances = reported.asked.advances };
    })

-- a table that is not read
unread_table : {S : Type 0} (source : Ghosts S) (rule : Padding) (limit : Option ℕ) (kept : ℕ) (a b : S) (error : Error)
    → AsksNext {X = List ℕ} source a b rule (TakesForLengths kept source.gives) (TableError rule source.gives source.refuses limit None) (Err error)
    → ReadsTable source a b rule limit kept (Err error)
unread_table source rule limit kept a b error asks = record { found = tt; within = tt; bound = tt; asks = asks }

-- a table's first word is not given
first_line : (rule : Padding) (gives : Giving) (refuses : Refusing) (limit : Option ℕ) (kind : ErrorKind) (old new : Option (List ℕ))
    → IfKnown old new IsTail → (old ≡ Some [] → kind ≡ DeviceFailed) → (kind ≡ DeviceFailed) ⊎ RequestError refuses 8 old kind
    → (kind ≡ DeviceFailed) ⊎ IfKnown old new (TableError rule gives refuses limit None kind)
first_line rule gives refuses limit kind old new tail end (inl device) = inl device
first_line rule gives refuses limit kind None new tail end (inr errors) = inr tt
first_line rule gives refuses limit kind (Some raw) None tail end (inr errors) = absurd tail
first_line rule gives refuses limit kind (Some []) (Some left) tail end (inr errors) = inl (end refl)
first_line rule gives refuses limit kind (Some (x ∷ raw)) (Some left) tail end (inr errors) = inr (inr (λ too_short. too_short, (λ none. cc, inl errors)))

-- A table that is not read: its first word is not there,
pub first_failed : {S X : Type 0} (source : Ghosts S) (rule : Padding) (limit : Option ℕ) (kept : ℕ)
    (a b : S) (error : Error) (result : Result (Option (List ℕ)) Error) → IsErrAnd result (λ own. own ≡ error)
    → (error.kind ≡ DeviceFailed) ⊎ RequestError source.refuses 8 (source.unread a) error.kind
    → (source.unread a ≡ Some [] → error.kind ≡ DeviceFailed)
    → Asked {X = X} source.unread source.failures source.same a b (Err error)
    → ReadsTable source a b rule limit kept result
first_failed source rule limit kept a b error (Ok found) is errors end asked = absurd is
first_failed source rule limit kept a b error (Err own) is errors end asked =
    subst (λ e. ReadsTable source a b rule limit kept (Err e)) (sym is) (unread_table source rule limit kept a b error (record {
      none = tt;
      errors = or_memory (first_line rule source.gives source.refuses limit error.kind _ _ asked.advances.tail end errors);
      kinds = reader_kind rule source.refuses _ (source_kind rule source.refuses _ _ _ errors);
      end = end;
      asked = record { failed = asked.failed; advances = asked.advances };
    }))

-- an allocation fails for the lengths, which are more than are kept,
pub memory_failed : {S : Type 0} (source : Ghosts S) (rule : Padding) (limit : Option ℕ) (kept : ℕ)
    (laws : IsSource source.gives source.refuses) (a b : S) (word : List ℕ) (count : ℕ) (result : Result (Option (List ℕ)) Error)
    → IsErrAnd result (λ own. own.kind ≡ OutOfMemory) → IfKnown (source.unread a) (source.unread b) (λ raw rest. source.gives raw 8 word rest)
    → DeclaresAccepted word count → kept < count → Advances source.unread source.failures source.same a b
    → ReadsTable source a b rule limit kept result
memory_failed source rule limit kept laws a b word count (Ok found) is given accepted more advances = absurd is
memory_failed source rule limit kept laws a b word count (Err own) is given accepted more advances = unread_table source rule limit kept a b own (record {
  none = tt;
  errors = inr (inl (is, lengths_taken source.gives kept count word _ _ accepted more given));
  kinds = inr (inl is);
  end = λ none. absurd (word_not_empty source.gives _ _ word laws.none_from_nothing given none);
  asked = record { failed = λ device. cc; advances = advances };
})

-- or its lengths are not read
pub lengths_failed : {S : Type 0} (source : Ghosts S) (rule : Padding) (limit : Option ℕ) (kept : ℕ)
    (laws : IsSource source.gives source.refuses) (a b c : S) (word : List ℕ) (count : ℕ) (indices : List (ℕ × ℕ)) (error : Error)
    (result : Result (Option (List ℕ)) Error) → (source.same a b → source.same b c → source.same a c) → IsErrAnd result (λ own. own ≡ error)
    → IfKnown (source.unread a) (source.unread b) (λ raw rest. source.gives raw 8 word rest) → DeclaresAccepted word count
    → length indices ≡ count → Advances source.unread source.failures source.same a b
    → ReadsLengths source b c rule limit word indices (Err error)
    → ReadsTable source a c rule limit kept result
lengths_failed source rule limit kept laws a b c word count indices error (Ok found) join is given accepted many first read = absurd is
lengths_failed source rule limit kept laws a b c word count indices error (Err own) join is given accepted many first read =
    let fails = subst (λ k. (error.kind ≡ DeviceFailed) ⊎ IfKnown (source.unread b) (source.unread c) (TableRestError rule source.gives source.refuses limit error.kind word k)) many read.errors in
    unread_table source rule limit kept a c own (asks_failed source rule _ _ a b c error (Err own) join is
    (or_memory (rest_met rule laws _ limit None error.kind _ _ _ word count (λ too_short. too_short) given accepted fails))
    (reader_kind rule source.refuses _ read.kinds)
    (λ none. absurd (word_not_empty source.gives _ _ word laws.none_from_nothing given none)) first read.asked)

-- and one that is, whose lengths are between these indices
pub lengths_found : {S : Type 0} (source : Ghosts S) (rule : Padding) (limit : Option ℕ) (kept : ℕ) (a b c : S) (word : List ℕ) (count : ℕ)
    (indices : List (ℕ × ℕ)) (total : ℕ) (ns : List ℕ) → (source.same a b → source.same b c → source.same a c)
    → IfKnown (source.unread a) (source.unread b) (λ raw rest. source.gives raw 8 word rest) → DeclaresAccepted word count
    → length indices ≡ count → Advances source.unread source.failures source.same a b
    → ReadsLengths source b c rule limit word indices (Ok total) → ns ≡ map range_len indices
    → ReadsTable source a c rule limit kept (Ok (Some ns))
lengths_found source rule limit kept a b c word count indices total ns join given accepted many first read is =
    let long : length (map range_len indices) ≡ count = length-map indices range_len ∙ many in
    let some = accepted.some in
    let few = accepted.few in
    subst (λ l. ReadsTable source a c rule limit kept (Ok (Some l))) (sym is) (record {
      found = table_found rule source.gives word _ _ _ _ given read.table;
      within = record { some = omega (arith, long); few = omega (arith, long); each = read.each; size = read.within };
      bound = subst (λ k. k < 2 ^ 42) read.ranges.total_is read.bound;
      asks = asks_found source rule _ _ a b c _ join first read.asked.advances;
    })
