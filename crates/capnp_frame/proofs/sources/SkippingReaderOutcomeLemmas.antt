-- The outcome of a call that skips a message: its table is not read, its segments are not skipped, or they are.
-- Runs of skipped bytes are joined. The source is plain.
use Rattle.std.proofs.Common.{◌≡◌, ℕ, ◌+◌, ◌*◌, ◌<◌, ◌≤◌, ◌⊎◌, inl, inr, ◌↔◌, List, [], ◌++◌, length, take, drop, replicate, Option, Some, None, IfSome, Result, Ok, Err, lit<, refl, sym, ap, ◌∙◌, subst, arith, length-append}
use Rattle.std.proofs.lemmas.List.{drop-drop, drop_at, take-append-drop, length-take-le, length-drop, length-replicate}
use Rattle.std.specs.Prelude.{sum}
use Rattle.std.specs.List.{AllByRecursion}
use Rattle.std.specs.Result.{IsErrAnd}
use Rattle.capnp_frame.specs.Prelude.{Asked, FailsOr, AreWithin, IsWholeWords, lengths, TakesForLengths, TableFound, MessageFound, cut, SkipsMessage, LengthsFound, Drops, Giving, Refusing, Splits, RunsShort, IsSource, IfKnown, RequestError, Advances, ReadsTable, skipping_rules, ReadsStream}
use Rattle.capnp_frame.specs.declared.error.Error.{Error}
use Rattle.capnp_frame.specs.declared.error.ErrorKind.{ErrorKind}
use Rattle.capnp_frame.specs.declared.error.ErrorKind.TheVariants.{DeviceFailed, FailedToFillTheWholeBuffer}
use Rattle.capnp_frame.specs.declared.io.Read.{Ghosts}
use Rattle.capnp_frame.specs.declared.serialize.segment_table.Padding.{Padding}
use Rattle.capnp_frame.proofs.sources.JoinedRequestPartsLemmas.{IfKnown-join, IfKnown-refl, IfKnown-weaker}
use Rattle.capnp_frame.proofs.encodings.MessageFoundByRequestsLemmas.{lengths-cut, MessageFound-cut, table_not_empty}
use Rattle.capnp_frame.proofs.errors.ReaderErrorLineLemmas.{reader_kind, source_kind, or_memory, table_met_skipping, segments_met}
use Rattle.capnp_frame.proofs.sources.JoinedReaderStepOutcomesLemmas.{asks_found, asks_failed, asks_passed}
use Rattle.capnp_frame.proofs.sources.AllocatingReaderOutcomeLemmas.{reads_taking}

-- A source is plain, as every source is that shows what it gives.
abbrev pub AreSplit : Giving → Type 0
AreSplit gives = (raw : List ℕ) (n : ℕ) (bytes rest : List ℕ) → Splits raw n bytes rest ↔ gives raw n bytes rest

abbrev pub RunShort : Refusing → Type 0
RunShort refuses = (raw : List ℕ) (n : ℕ) (kind : ErrorKind) → RunsShort raw n kind ↔ refuses raw n kind

-- Bytes

pub Drops-none : (n : ℕ) (old : Option (List ℕ)) → n ≡ 0 → IfKnown old old (Drops n)
Drops-none n old none = IfKnown-refl (Drops n) old (λ raw. (omega arith, sym (ap (λ k. drop k raw) none)))

pub Drops-join : (j k n : ℕ) (a b c : Option (List ℕ)) → j + k ≡ n → IfKnown a b (Drops j) → IfKnown b c (Drops k) → IfKnown a c (Drops n)
Drops-join j k n a b c both = IfKnown-join a b c (λ x y z (within, here) (more, there). (
  omega (arith, within, more, ap length here, length-drop j x, both),
  there ∙ ap (drop k) here ∙ drop-drop k j x ∙ ap (λ i. drop i x) both,
))

pub Drops-as : (j n : ℕ) (a b : Option (List ℕ)) → j ≡ n → IfKnown a b (Drops j) → IfKnown a b (Drops n)
Drops-as j n a b same dropped = subst (λ k. IfKnown a b (Drops k)) same dropped

-- what is read is dropped
pub read_dropped : (gives : Giving) (bytes : List ℕ) (a b : Option (List ℕ)) → AreSplit gives
    → IfKnown a b (λ raw rest. gives raw (length bytes) bytes rest) → IfKnown a b (Drops (length bytes))
read_dropped gives bytes a b plain = IfKnown-weaker a b (λ raw rest given.
    let split = (plain raw (length bytes) bytes rest).1 given in
    let joined : length raw ≡ length bytes + length rest = ap length (split.0) ∙ length-append bytes rest in
    (omega (arith, joined), sym (drop_at bytes rest (length bytes) refl) ∙ ap (drop (length bytes)) (sym (split.0))))

-- a request that fails after some bytes fails before them
error_after : (refuses : Refusing) (j m n : ℕ) (a b : Option (List ℕ)) (kind : ErrorKind) → RunShort refuses → j + m ≤ n
    → IfKnown a b (Drops j) → RequestError refuses m b kind → RequestError refuses n a kind
error_after refuses j m n None None kind plain both dropped errors = errors
error_after refuses j m n None (Some y) kind plain both dropped errors = (y, m, errors)
error_after refuses j m n (Some x) None kind plain both dropped errors = absurd dropped
error_after refuses j m n (Some x) (Some y) kind plain both (within, here) errors =
    let (short, is) = (plain y m kind).1 errors in
    (plain x n kind).0 (omega (arith, within, short, both, ap length here, length-drop j x), is)

pub short_after : (refuses : Refusing) (j m n : ℕ) (a b : Option (List ℕ)) (kind : ErrorKind) → RunShort refuses → j + m ≤ n
    → IfKnown a b (Drops j) → (kind ≡ DeviceFailed) ⊎ RequestError refuses m b kind → (kind ≡ DeviceFailed) ⊎ RequestError refuses n a kind
short_after refuses j m n a b kind plain both dropped (inl device) = inl device
short_after refuses j m n a b kind plain both dropped (inr errors) = inr (error_after refuses j m n a b kind plain both dropped errors)

pub skip_fails_after : {X : Type 0} (refuses : Refusing) (j m n : ℕ) (a b : Option (List ℕ)) (r : Result X Error) → RunShort refuses → j + m ≤ n
    → IfKnown a b (Drops j) → FailsOr r (RequestError refuses m b) → FailsOr r (RequestError refuses n a)
skip_fails_after refuses j m n a b (Ok x) plain both dropped errors = tt
skip_fails_after refuses j m n a b (Err e) plain both dropped errors = short_after refuses j m n a b e.kind plain both dropped errors

-- nothing is left after fewer bytes than are asked for
pub short_at_end : (refuses : Refusing) (j n : ℕ) (a b : Option (List ℕ)) (kind : ErrorKind) → RunShort refuses → j < n
    → IfKnown a b (Drops j) → IfSome b (λ raw. raw ≡ []) → kind ≡ FailedToFillTheWholeBuffer → RequestError refuses n a kind
short_at_end refuses j n None b kind plain some dropped end is = ([], 1, (plain [] 1 kind).0 (lit< tt, is))
short_at_end refuses j n (Some x) None kind plain some dropped end is = absurd dropped
short_at_end refuses j n (Some x) (Some y) kind plain some (within, here) end is =
    (plain x n kind).0 (omega (arith, within, some, ap length here, ap length end, length-drop j x), is)

-- Messages

-- the segments that are skipped after a table
pub LengthsFound-skipped : (rule : Padding) (gives : Giving) (ns : List ℕ) (n : ℕ) (a b c : Option (List ℕ)) → AreSplit gives
    → n ≡ 8 * sum ns → IfKnown a b (TableFound rule gives ns) → IfKnown b c (Drops n) → IfKnown a c (LengthsFound rule gives ns)
LengthsFound-skipped rule gives ns n a b c plain all = IfKnown-join a b c (λ x y z table (within, is).
    let bytes = take n y in
    let long : length bytes ≡ n = length-take-le n y within in
    let given : gives y (length bytes) bytes z =
    (plain y (length bytes) bytes z).0 (sym (take-append-drop n y) ∙ ap (λ l. take n y ++ l) (sym is), refl) in
    let whole : length bytes ≡ 8 * sum ns = long ∙ all in (
      cut ns bytes,
      (lengths-cut ns bytes whole).0,
      MessageFound-cut rule gives ns bytes (Some x) (Some y) (Some z) whole table given,
    ))

-- the message that is there, and some message of these lengths where that isn't known
known_found : (rule : Padding) (gives : Giving) (ns : List ℕ) (a b : Option (List ℕ)) → IfKnown a b (LengthsFound rule gives ns)
    → (message : List (List ℕ)) × (lengths message ≡ ns) × AllByRecursion IsWholeWords message × IfKnown a b (MessageFound rule gives message)
known_found rule gives ns None b found =
    let zeros = replicate (8 * sum ns) 0 in
    let are = lengths-cut ns zeros (length-replicate (8 * sum ns) 0) in
    (cut ns zeros, are.0, are.1, tt)
known_found rule gives ns (Some x) None found = absurd found
known_found rule gives ns (Some x) (Some y) (message, same, is_found) = (message, same, is_found.whole, is_found)

-- The exits of a call that skips a message, once its table is asked for: the table is not read,
pub skips_unread : {S : Type 0} (rule : Padding) (source : Ghosts S) (laws : IsSource source.gives source.refuses) (old new : S) (kept : ℕ)
    (limit : Option ℕ) (error : Error) (result : Result (Option (List ℕ)) Error) → IsErrAnd result (λ own. own ≡ error)
    → ReadsTable source old new rule limit kept (Err error)
    → SkipsMessage (ReadsStream source old new (skipping_rules rule source.gives source.refuses kept) limit) result
skips_unread rule source laws old new kept limit error (Ok found) is table = absurd is
skips_unread rule source laws old new kept limit error (Err own) is table =
    reads_taking rule source laws old new (λ most. TakesForLengths kept source.gives) limit (Err own) tt tt tt
    (asks_passed source old new rule _ _ _ _ error (Err own) is (table_met_skipping rule _ _ source.gives source.refuses limit _ _ _) table.asks)

-- the segments are not skipped,
pub skips_cut : {S X : Type 0} (rule : Padding) (source : Ghosts S) (laws : IsSource source.gives source.refuses) (a b c : S) (kept : ℕ)
    (limit : Option ℕ) (ns : List ℕ) (n : ℕ) (error : Error) (result : Result (Option (List ℕ)) Error)
    → (source.same a b → source.same b c → source.same a c) → IsErrAnd result (λ own. own ≡ error)
    → ReadsTable source a b rule limit kept (Ok (Some ns)) → n ≡ 8 * sum ns
    → (error.kind ≡ DeviceFailed) ⊎ RequestError source.refuses n (source.unread b) error.kind
    → Asked {X = X} source.unread source.failures source.same b c (Err error)
    → SkipsMessage (ReadsStream source a c (skipping_rules rule source.gives source.refuses kept) limit) result
skips_cut rule source laws a b c kept limit ns n error (Ok found) join is table all failed asked = absurd is
skips_cut rule source laws a b c kept limit ns n error (Err own) join is table all failed asked =
    reads_taking rule source laws a c (λ most. TakesForLengths kept source.gives) limit (Err own) tt tt tt
    (asks_failed source rule _ _ a b c error (Err own) join is
    (or_memory (segments_met rule laws _ limit None _ _ _ _ ns n (λ x. x) table.found table.within asked.advances.tail all failed))
    (reader_kind rule source.refuses _ (source_kind rule source.refuses _ _ _ failed))
    (λ none. absurd (table_not_empty rule source.gives _ _ ns laws.none_from_nothing table.found none)) table.asks.asked.advances asked)

-- or they are.
pub skips_found : {S : Type 0} (rule : Padding) (source : Ghosts S) (laws : IsSource source.gives source.refuses) (a b c : S) (kept : ℕ)
    (limit : Option ℕ) (ns : List ℕ) → (source.same a b → source.same b c → source.same a c)
    → ReadsTable source a b rule limit kept (Ok (Some ns)) → IfKnown (source.unread a) (source.unread c) (LengthsFound rule source.gives ns)
    → Advances source.unread source.failures source.same b c
    → SkipsMessage (ReadsStream source a c (skipping_rules rule source.gives source.refuses kept) limit) (Ok (Some ns))
skips_found rule source laws a b c kept limit ns join table is_found second =
    let there = known_found rule source.gives ns (source.unread a) (source.unread c) is_found in (
      there.0,
      there.1,
      reads_taking rule source laws a c (λ most. TakesForLengths kept source.gives) limit (Ok (Some there.0)) there.3
          (subst (λ l. AreWithin l limit) (sym there.1) table.within) there.2 (asks_found source rule _ _ a b c there.0 join table.asks.asked.advances second),
    )
