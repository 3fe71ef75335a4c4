-- The outcome of a reader of streams into a caller-provided buffer: what it puts there, the message that it finds,
-- or the line of the error table with which it fails.
use Rattle.std.proofs.Common.{◌≡◌, ℕ, ◌+◌, ◌*◌, ◌<◌, ◌≤◌, Option, Some, None, IfSome, List, [], ◌++◌, length, take, drop, sym, ap, ◌∙◌, subst, arith, length-append}
use Rattle.std.proofs.lemmas.List.{take_at, drop_at, length-take-le, take_all}
use borrow.Rule.Slice.PartMut.{put_mid, post_of}
use Rattle.std.specs.Prelude.{sum}
use Rattle.std.proofs.Common.{◌⊎◌, inl, inr, Result, Ok, Err, IfErr}
use Rattle.capnp_frame.specs.declared.error.Error.{Error}
use Rattle.capnp_frame.specs.declared.error.ErrorKind.{ErrorKind}
use Rattle.capnp_frame.specs.declared.error.ErrorKind.TheVariants.{DeviceFailed, BufferNotLargeEnough}
use Rattle.capnp_frame.specs.Prelude.{lengths, size_in_words, table_size, IsTable, cut, KeepsLimit, AreWithin, IsWithin, Giving, Refusing, IsSource, IfKnown, IsTail, RequestError, Advances, Fails, StreamError, IsProvidedReaderKind, framed_rules, ReadsStreamInto, MessageFound, FindsTable, FindsMessageSize, declared_lengths, declared_segments, DeclaresTable, HoldsMessage}
use Rattle.capnp_frame.specs.declared.serialize.segment_table.Padding.{Padding}
use Rattle.capnp_frame.specs.declared.serialize.segment_table.Padding.TheVariants.{Any}
use Rattle.capnp_frame.specs.declared.io.Read.{Ghosts}
use Rattle.capnp_frame.proofs.encodings.MessageFoundByRequestsLemmas.{MessageFound-cut}
use Rattle.capnp_frame.proofs.slices.SliceOutcomeAfterTableReadLemmas.{within_from_holds, begins_from_holds}
use Rattle.capnp_frame.proofs.errors.ReaderErrorLineLemmas.{body_met, segments_met}
use Rattle.capnp_frame.proofs.tables.TableDeclaredByFieldsLemmas.{table_is, Declared, declared_from_table, length-declared}
use Rattle.capnp_frame.proofs.encodings.DeclaredMessageIsFrontFrameLemmas.{found_from_holds, cut-take}
use Rattle.capnp_frame.proofs.errors.UniqueErrorLineLemmas.{StreamError-apart, StreamError-once}
use Rattle.capnp_frame.proofs.sinks.JoinedChunkListLemmas.{length-lengths}

-- the segments put after a table
record Filled (before body after : List ℕ) (count : ℕ) : Type 0 where
  holds : HoldsMessage after count
  lengths_are : declared_lengths count after ≡ declared_lengths count before
  segments_are : declared_segments count after ≡ cut (declared_lengths count before) body

body_put : (before body : List ℕ) (count size len : ℕ) → DeclaresTable before count → size ≡ table_size count
    → len ≡ 8 * sum (declared_lengths count before) → length body ≡ len → size + len ≤ length before
    → Filled before body (put_mid size len before body) count
body_put before body count size len tells size_is len_is long room =
    let ns = declared_lengths count before in
    let many = length-declared count before in
    let front = take size before in
    let tail = body ++ post_of size len before in
    let after = front ++ tail in
    let front_len : length front ≡ size = length-take-le size before (omega arith) in
    let table : IsTable Any front ns = subst (λ k. IsTable Any (take k before) ns) (sym size_is) (table_is Any before count tells tt) in
    let few = tells.few in
    let declared : Declared Any after ns = declared_from_table front tail ns table (omega arith) in
    let lens : declared_lengths count after ≡ ns = subst (λ k. declared_lengths k after ≡ ns) many declared.lengths in
    let again : DeclaresTable after count = subst (DeclaresTable after) many declared.tells in
    let sums : sum (declared_lengths count after) ≡ sum ns = ap sum lens in
    let following : drop (table_size count) after ≡ tail = ap (λ k. drop k after) (sym size_is) ∙ drop_at front tail size front_len in
    let part : take (8 * sum ns) tail ≡ body = take_at body (post_of size len before) (8 * sum ns) (omega arith) in
    record {
      holds = record { table = again; room = omega (arith, length-append front tail, length-append body (post_of size len before)) };
      lengths_are = lens;
      segments_are = ap (λ l. cut l (drop (table_size count) after)) lens ∙ ap (cut ns) following ∙ cut-take ns tail ∙ ap (cut ns) part;
    }

-- what the numbers of a table keep
pub declared_within : (buffer : List ℕ) (count : ℕ) (limit : Option ℕ) → DeclaresTable buffer count → KeepsLimit (declared_lengths count buffer) limit → AreWithin (declared_lengths count buffer) limit
declared_within buffer count limit tells keeps =
    let many = length-declared count buffer in
    let some = tells.some in
    let few = tells.few in
    record { some = omega arith; few = omega arith; each = tells.lengths.each; size = keeps }

-- the segments are read after the table
pub body_read : (rule : Padding) (gives : Giving) (limit : Option ℕ) (before body : List ℕ) (count total size len : ℕ) (old mid new : Option (List ℕ))
    → FindsTable rule gives limit before count total old mid → size ≡ table_size count → len ≡ 8 * total → length body ≡ len
    → size + len ≤ length before → IfKnown mid new (λ raw rest. gives raw (length body) body rest)
    → FindsMessageSize rule gives limit (put_mid size len before body) count (8 * total) old new
body_read rule gives limit before body count total size len old mid new read size_is len_is long room given =
    let sums = read.total_is in
    let filled = body_put before body count size len read.tells size_is (omega arith) long room in
    record {
      found = subst (λ l. IfKnown old new (MessageFound rule gives l)) (sym filled.segments_are)
          (MessageFound-cut rule gives (declared_lengths count before) body old mid new (omega arith) read.found given);
      holds = filled.holds;
      total_is = ap (λ k. 8 * k) (sums ∙ ap sum (sym filled.lengths_are));
      within = subst (λ l. KeepsLimit l limit) (sym filled.lengths_are) read.within;
    }

-- the buffer has no room for the segments
pub segments_too_short : {gives : Giving} {refuses : Refusing} (rule : Padding) (laws : IsSource gives refuses) (limit : Option ℕ)
    (buffer : List ℕ) (count total len : ℕ) (old mid : Option (List ℕ)) → FindsTable rule gives limit buffer count total old mid
    → table_size count ≤ len → len < table_size count + 8 * total
    → IfKnown old mid (StreamError rule gives refuses limit (Some len) BufferNotLargeEnough)
segments_too_short rule laws limit buffer count total len old mid read room too_short =
    let many = length-declared count buffer in
    let sums = read.total_is in
    body_met rule laws limit (Some len) old mid (declared_lengths count buffer) (λ short. absurd (omega arith)) (omega arith)
    read.found (declared_within buffer count limit read.tells read.within)

-- the request of the segments fails
pub segments_error : {gives : Giving} {refuses : Refusing} (rule : Padding) (laws : IsSource gives refuses) (F : Type 0)
    (limit : Option ℕ) (kind : ErrorKind) (buffer : List ℕ) (count total len n : ℕ) (old mid new : Option (List ℕ))
    → FindsTable rule gives limit buffer count total old mid → table_size count + 8 * total ≤ len → n ≡ 8 * total
    → IfKnown mid new IsTail → F ⊎ RequestError refuses n mid kind
    → F ⊎ IfKnown old new (StreamError rule gives refuses limit (Some len) kind)
segments_error rule laws F limit kind buffer count total len n old mid new read room asked tail =
    let many = length-declared count buffer in
    let sums = read.total_is in
    segments_met rule laws F limit (Some len) kind old mid new (declared_lengths count buffer) n (λ short. absurd (omega arith))
    read.found (declared_within buffer count limit read.tells read.within) tail (omega arith)

-- a table put at the front of a buffer
pub record IsTablePut (table after : List ℕ) (count : ℕ) : Type 0 where
  pub tells : DeclaresTable after count
  pub lengths_are : declared_lengths count table ≡ declared_lengths count after

pub table_put : (before table : List ℕ) (count size : ℕ) → DeclaresTable table count → length table ≡ table_size count → IsTablePut table (put_mid 0 size before table) count
table_put before table count size tells long =
    let ns = declared_lengths count table in
    let many = length-declared count table in
    let whole : IsTable Any table ns = subst (λ l. IsTable Any l ns) (take_all (table_size count) table (omega arith)) (table_is Any table count tells tt) in
    let few = tells.few in
    let declared : Declared Any (table ++ post_of 0 size before) ns = declared_from_table table (post_of 0 size before) ns whole (omega arith) in
    record {
      tells = subst (DeclaresTable (table ++ post_of 0 size before)) many declared.tells;
      lengths_are = sym (subst (λ k. declared_lengths k (table ++ post_of 0 size before) ≡ ns) many declared.lengths);
    }

-- what the results come to

pub provided_accepted : {gives : Giving} {refuses : Refusing} (rule : Padding) (laws : IsSource gives refuses) {X : Type 0}
    (limit : Option ℕ) (len : ℕ) (old new : Option (List ℕ)) (r : Result X Error)
    → IfErr r (λ e. (e.kind ≡ DeviceFailed) ⊎ IfKnown old new (StreamError rule gives refuses limit (Some len) e.kind))
    → IfSome old (λ raw. (segments : List (List ℕ)) (rest : List ℕ) → MessageFound rule gives segments raw rest
    → IsWithin segments limit → table_size (length segments) + 8 * size_in_words segments ≤ len
    → IfErr r (λ e. e.kind ≡ DeviceFailed))
provided_accepted rule laws limit len None new r errors = tt
provided_accepted rule laws limit len (Some raw) new (Ok x) errors = λ segments rest sent within room. tt
provided_accepted rule laws limit len (Some raw) new (Err e) (inl p) = λ segments rest sent within room. p
provided_accepted rule laws limit len (Some raw) None (Err e) (inr p) = absurd p
provided_accepted rule laws limit len (Some raw) (Some left) (Err e) (inr p) = λ segments rest sent within room. absurd
    (StreamError-apart rule laws limit (Some len) e.kind raw left rest segments sent within
    (λ too_short. let many = length-lengths segments in absurd (omega arith)) p)

pub provided_once : {gives : Giving} {refuses : Refusing} (rule : Padding) (laws : IsSource gives refuses) (limit : Option ℕ) (len : ℕ)
    (own : ErrorKind) (old new : Option (List ℕ)) → (own ≡ DeviceFailed)
    ⊎ IfKnown old new (StreamError rule gives refuses limit (Some len) own)
    → IfSome old (λ raw. (kind : ErrorKind) (left : List ℕ)
    → StreamError rule gives refuses limit (Some len) kind raw left → (own ≡ DeviceFailed) ⊎ (own ≡ kind))
provided_once rule laws limit len own None new errors = tt
provided_once rule laws limit len own (Some raw) new (inl p) = λ kind left q. inl p
provided_once rule laws limit len own (Some raw) None (inr p) = absurd p
provided_once rule laws limit len own (Some raw) (Some left) (inr p) = λ kind rest q. inr (StreamError-once rule laws limit (Some len) own kind raw left rest p q)

pub provided_apart : {gives : Giving} {refuses : Refusing} (rule : Padding) (laws : IsSource gives refuses) (limit : Option ℕ)
    (buffer : List ℕ) (count len : ℕ) (segments : List (List ℕ)) (old new : Option (List ℕ))
    → HoldsMessage buffer count → segments ≡ declared_segments count buffer → length buffer ≡ len
    → IfKnown old new (MessageFound rule gives segments) → IsWithin segments limit
    → IfSome old (λ raw. (kind : ErrorKind) (left : List ℕ)
    → StreamError rule gives refuses limit (Some len) kind raw left → ⊥)
provided_apart rule laws limit buffer count len segments None new holds are long found within = tt
provided_apart rule laws limit buffer count len segments (Some raw) None holds are long found within = absurd found
provided_apart rule laws limit buffer count len segments (Some raw) (Some rest) holds are long found within = λ kind left met.
    let lens : lengths segments ≡ declared_lengths count buffer = ap lengths are ∙ (found_from_holds Any buffer count holds tt).lengths_are in
    let many : length (lengths segments) ≡ count = ap length lens ∙ length-declared count buffer in
    let total : size_in_words segments ≡ sum (declared_lengths count buffer) = ap sum lens in
    let room = holds.room in
    StreamError-apart rule laws limit (Some len) kind raw left rest segments found within (λ too_short. absurd (omega arith)) met

-- what the reader returns, where it finds a message
pub reads_into : {S : Type 0} (rule : Padding) (source : Ghosts S) (laws : IsSource source.gives source.refuses) (old new : S)
    (limit : Option ℕ) (room : ℕ) (buffer : List ℕ) (count : ℕ) (segments : List (List ℕ))
    → HoldsMessage buffer count → segments ≡ declared_segments count buffer → length buffer ≡ room
    → KeepsLimit (declared_lengths count buffer) limit
    → IfKnown (source.unread old) (source.unread new) (MessageFound rule source.gives (declared_segments count buffer))
    → (room < 8 → ⊥) → Advances source.unread source.failures source.same old new
    → ReadsStreamInto source old new (framed_rules rule source.gives source.refuses) limit room (Ok (Some segments))
reads_into rule source laws old new limit room buffer count segments holds are long keeps is_found enough advances =
    let found = subst (λ m. IfKnown (source.unread old) (source.unread new) (MessageFound rule source.gives m)) (sym are) is_found in
    let within = within_from_holds buffer count segments limit holds are keeps in
    record {
      found = found;
      within = within;
      whole = (begins_from_holds Any buffer count segments holds tt are).1.1.whole;
      none = tt;
      accepted = provided_accepted rule laws limit room _ (source.unread new) (Ok (Some segments)) tt;
      end = tt;
      short = λ few. absurd (enough few);
      errors = tt;
      exact = provided_apart rule laws limit buffer count room segments _ _ holds are long found within;
      kinds = tt;
      failed = tt;
      advances = advances;
    }

-- and where it fails
pub fails_into : {S : Type 0} (rule : Padding) (source : Ghosts S) (laws : IsSource source.gives source.refuses) (old new : S)
    (limit : Option ℕ) (room : ℕ) (error : Error)
    → (error.kind ≡ DeviceFailed)
    ⊎ IfKnown (source.unread old) (source.unread new) (StreamError rule source.gives source.refuses limit (Some room) error.kind)
    → (source.unread old ≡ Some [] → 8 ≤ room → error.kind ≡ DeviceFailed)
    → (room < 8 → (new ≡ old) × (error.kind ≡ BufferNotLargeEnough)) → IsProvidedReaderKind rule source.refuses error.kind
    → (error.kind ≡ DeviceFailed → Fails (source.failures old) (source.failures new))
    → Advances source.unread source.failures source.same old new
    → ReadsStreamInto source old new (framed_rules rule source.gives source.refuses) limit room (Err error)
fails_into rule source laws old new limit room error errors end short kinds failed advances = record {
  found = tt;
  within = tt;
  whole = tt;
  none = tt;
  accepted = provided_accepted rule laws {X = Option (List (List ℕ))} limit room _ (source.unread new) (Err error) errors;
  end = end;
  short = short;
  errors = errors;
  exact = provided_once rule laws limit room error.kind _ (source.unread new) errors;
  kinds = kinds;
  failed = failed;
  advances = advances;
}
