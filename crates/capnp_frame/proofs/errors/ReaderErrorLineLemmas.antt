-- With which line of the error table each part of a reader fails.
use Rattle.std.proofs.Common.{◌≡◌, ℕ, ◌+◌, ◌-◌, ◌*◌, ◌/◌, ◌<◌, Option, Some, None, ◌⊎◌, inl, inr, max, List, [], ◌++◌, length, take, drop, refl, ap, ◌∙◌, subst, arith}
use Rattle.std.specs.Prelude.{sum, IsSomeAnd}
use Rattle.capnp_frame.specs.declared.error.ErrorKind.{ErrorKind}
use Rattle.capnp_frame.specs.declared.error.ErrorKind.TheVariants.{BufferNotLargeEnough, MessageTooLarge, NonZeroPadding, DeviceFailed}
use Rattle.capnp_frame.specs.declared.serialize.segment_table.Padding.{Padding}
use Rattle.capnp_frame.specs.declared.serialize.segment_table.Padding.TheVariants.{Any, Zero}
use Rattle.capnp_frame.specs.Prelude.{table_size, KeepsPadding, IsTable, declared_lengths, declared_padding, DeclaresTable, KeepsLimit, AreWithin, Giving, Refusing, IsSource, IfKnown, IsTail, RequestError, TableFound, DeclaresCount, DeclaresAccepted, Outgrows, TakesForLengths, IsTooLarge, IsTooShort, IsTableKind, IsReaderKind, IsProvidedReaderKind, LimitError, TableError, StreamError, TableRestError, CompleteTableError}
use Rattle.capnp_frame.proofs.sources.JoinedRequestPartsLemmas.{IfKnown-join, IfKnown-weaker, IfKnown-error}
use Rattle.capnp_frame.proofs.tables.ErrorAfterTableLemmas.{StartError-from}
use Rattle.capnp_frame.proofs.tables.TableFromTwoRequestsLemmas.{whole_table, rejected_table}
use Rattle.capnp_frame.proofs.errors.UniqueErrorLineLemmas.{in_range, within_limit, small_room, StartError-map, given_some}

-- the lines, as a reader meets them

-- a number of segments that is accepted is the one that the word declares
DeclaresCount-accepted : (word : List ℕ) (count : ℕ) → DeclaresAccepted word count → DeclaresCount word count
DeclaresCount-accepted word count accepted =
    let some = accepted.some in
    let few = accepted.few in
    (count - 1, omega arith, accepted.declared, omega arith)

-- the lines of a table that is completed

-- the request of the other words fails
pub others_error : (rule : Padding) (gives : Giving) (refuses : Refusing) (F : Type 0) (limit : Option ℕ) (kind : ErrorKind)
    (word : List ℕ) (count : ℕ) (old new : Option (List ℕ)) → IfKnown old new IsTail
    → F ⊎ RequestError refuses (8 * (count / 2)) old kind
    → F ⊎ IfKnown old new (TableRestError rule gives refuses limit kind word count)
others_error rule gives refuses F limit kind word count old new tail (inl failed) = inl failed
others_error rule gives refuses F limit kind word count None new tail (inr errors) = inr tt
others_error rule gives refuses F limit kind word count (Some raw) None tail (inr errors) = absurd tail
others_error rule gives refuses F limit kind word count (Some raw) (Some left) tail (inr errors) = inr (inl errors)

-- the table is one of any padding
some_table : (table : List ℕ) (count : ℕ) → DeclaresTable table count → length table ≡ table_size count
    → IsTable Any (take 8 table ++ drop 8 table) (declared_lengths count table)
some_table table count tells size = whole_table Any (take 8 table) table count refl size tells tt

-- its segments have more words than the limit
pub limit_error : (rule : Padding) (limit : Option ℕ) (kind : ErrorKind) (table : List ℕ) (count total : ℕ) → DeclaresTable table count
    → length table ≡ table_size count → total ≡ sum (declared_lengths count table)
    → IsSomeAnd limit (λ most. most < total) × (kind ≡ MessageTooLarge total) → CompleteTableError rule limit kind table
limit_error rule limit kind table count total tells size sums (over, is) =
    let ns = declared_lengths count table in
    let large : IsTooLarge ns limit = subst (λ k. IsSomeAnd limit (λ most. most < k)) sums over in
    λ following. (ns, some_table table count tells size, inl (large, (is ∙ ap MessageTooLarge sums, refl)))

-- the rule does not accept its padding
pub padding_error : (rule : Padding) (limit : Option ℕ) (kind : ErrorKind) (table : List ℕ) (count : ℕ) → DeclaresTable table count
    → length table ≡ table_size count → KeepsLimit (declared_lengths count table) limit
    → (KeepsPadding rule (declared_padding count table) → ⊥) → kind ≡ NonZeroPadding → CompleteTableError rule limit kind table
padding_error rule limit kind table count tells size keeps rejected is =
    let ns = declared_lengths count table in
    let rejects = rejected_table rule (take 8 table) table count refl size rejected in
    λ following. (ns, some_table table count tells size, inr (within_limit ns limit keeps, inl (rejects, (is, refl))))

-- these are lines of a table that is to be completed
pub complete_error : (rule : Padding) (gives : Giving) (refuses : Refusing) (limit : Option ℕ) (kind : ErrorKind)
    (word table : List ℕ) (count : ℕ) (old new : Option (List ℕ)) → take 8 table ≡ word → length table ≡ table_size count
    → IfKnown old new (λ raw rest. gives raw (length table - 8) (drop 8 table) rest)
    → CompleteTableError rule limit kind table → IfKnown old new (TableRestError rule gives refuses limit kind word count)
complete_error rule gives refuses limit kind word table count old new front long given met =
    let size : length table - 8 ≡ 8 * (count / 2) = omega arith in
    IfKnown-weaker old new (λ raw rest given. inr (
      drop 8 table,
      rest,
      subst (λ k. gives raw k (drop 8 table) rest) size given,
      subst (λ first. LimitError rule limit kind (λ ns following. ⊥) rest first (drop 8 table) rest) front (met rest),
    )) given

-- and their kinds are those met there, none of them the device's
pub complete_kind : (rule : Padding) (refuses : Refusing) (limit : Option ℕ) (kind : ErrorKind) (table : List ℕ)
    → CompleteTableError rule limit kind table → IsTableKind rule refuses kind × (kind ≡ DeviceFailed → ⊥)
complete_kind rule refuses limit kind table met = by_line rule (met [])
  where
    by_line : (own : Padding) → LimitError own limit kind (λ ns rest. ⊥) [] (take 8 table) (drop 8 table) []
        → IsTableKind own refuses kind × (kind ≡ DeviceFailed → ⊥)
    by_line own (ns, is, inl (large, (line, here))) = (inr (inl (sum ns, line)), λ device. cc)
    by_line Any (ns, is, inr (small, inl (rejects, line))) = absurd (rejects is)
    by_line Zero (ns, is, inr (small, inl (rejects, (line, here)))) = (inr (inr (inl (refl, line))), λ device. cc)
    by_line own (ns, is, inr (small, inr (kept, never))) = absurd never

-- and these are lines of the whole table of errors
pub rest_met : (rule : Padding) {gives : Giving} {refuses : Refusing} (laws : IsSource gives refuses) (F : Type 0)
    (limit room : Option ℕ) (kind : ErrorKind) (old mid new : Option (List ℕ)) (word : List ℕ) (count : ℕ)
    → (IsTooShort room (table_size count) → ⊥) → IfKnown old mid (λ raw rest. gives raw 8 word rest)
    → DeclaresAccepted word count → F ⊎ IfKnown mid new (TableRestError rule gives refuses limit kind word count)
    → F ⊎ IfKnown old new (TableError rule gives refuses limit room kind)
rest_met rule laws F limit room kind old mid new word count table given accepted (inl failed) = inl failed
rest_met rule {gives} {refuses} laws F limit room kind old mid new word count table given accepted (inr fails) =
    inr (IfKnown-join old mid new (λ raw mid left here fails. inr (
      small_room room 8 (table_size count) (omega arith) table,
      (
        given_some laws raw 8 word mid here (omega arith),
        inr (
          word,
          mid,
          here,
          (
            count,
            DeclaresCount-accepted word count accepted,
            inr (in_range count accepted.some accepted.few, inr (table, fails)),
          ),
        ),
      ),
    )) given fails)

-- the kinds met there are a reader's

pub reader_kind : (rule : Padding) (refuses : Refusing) (kind : ErrorKind) → IsTableKind rule refuses kind → IsReaderKind rule refuses kind
reader_kind rule refuses kind (inl failed) = inl failed
reader_kind rule refuses kind (inr others) = inr (inr (inr others))

pub provided_reader_kind : (rule : Padding) (refuses : Refusing) (kind : ErrorKind) → IsTableKind rule refuses kind → IsProvidedReaderKind rule refuses kind
provided_reader_kind rule refuses kind (inl failed) = inl failed
provided_reader_kind rule refuses kind (inr others) = inr (inr (inr others))

-- and a source's error is one of them
pub source_kind : (rule : Padding) (refuses : Refusing) (n : ℕ) (unread : Option (List ℕ)) (kind : ErrorKind) → (kind ≡ DeviceFailed) ⊎ RequestError refuses n unread kind → IsTableKind rule refuses kind
source_kind rule refuses n unread kind (inl p) = inl p
source_kind rule refuses n None kind (inr p) = inr (inr (inr p))
source_kind rule refuses n (Some raw) kind (inr p) = inr (inr (inr (raw, n, p)))

pub table_met : (rule : Padding) (F : Type 0) (gives : Giving) (refuses : Refusing) (limit room : Option ℕ) (kind : ErrorKind)
    (old new : Option (List ℕ)) → F ⊎ IfKnown old new (TableError rule gives refuses limit room kind) → F
    ⊎ IfKnown old new (StreamError rule gives refuses limit room kind)
table_met rule F gives refuses limit room kind old new (inl p) = inl p
table_met rule F gives refuses limit room kind old new (inr p) = inr
    (IfKnown-weaker old new (λ raw left. StartError-map rule {gives = gives} {refuses = refuses}
    (λ raw n bytes rest given. given) (λ raw n kind errors. errors) limit room kind _ _ raw left
    (λ ns following never. absurd never)) p)

-- a caller-provided buffer has no room for the segments
pub body_met : {gives : Giving} {refuses : Refusing} (rule : Padding) (laws : IsSource gives refuses) (limit room : Option ℕ)
    (old mid : Option (List ℕ)) (ns : List ℕ) → (IsTooShort room (table_size (length ns)) → ⊥)
    → IsTooShort room (table_size (length ns) + 8 * sum ns) → IfKnown old mid (TableFound rule gives ns)
    → AreWithin ns limit → IfKnown old mid (StreamError rule gives refuses limit room BufferNotLargeEnough)
body_met rule laws limit room old mid ns fits too_short sent accepts = IfKnown-weaker old mid
    (λ raw left here. StartError-from rule laws limit room BufferNotLargeEnough _ raw left ns left fits here accepts
    (inl (too_short, (refl, refl)))) sent

pub segments_met : {gives : Giving} {refuses : Refusing} (rule : Padding) (laws : IsSource gives refuses) (F : Type 0)
    (limit room : Option ℕ) (kind : ErrorKind) (old mid new : Option (List ℕ)) (ns : List ℕ) (len : ℕ)
    → (IsTooShort room (table_size (length ns) + 8 * sum ns) → ⊥) → IfKnown old mid (TableFound rule gives ns)
    → AreWithin ns limit → IfKnown mid new IsTail → len ≡ 8 * sum ns → F ⊎ RequestError refuses len mid kind → F
    ⊎ IfKnown old new (StreamError rule gives refuses limit room kind)
segments_met rule laws F limit room kind old mid new ns len fits sent accepts tail long (inl p) = inl p
segments_met {gives} {refuses} rule laws F limit room kind old mid new ns len fits sent accepts tail long (inr p) =
    inr (IfKnown-error old mid new refuses len kind
    (λ raw mid left here errors. StartError-from rule laws limit room kind _ raw left ns mid
    (small_room room (table_size (length ns)) (table_size (length ns) + 8 * sum ns) (omega arith) fits) here
    accepts (inr (fits, subst (λ k. refuses mid k kind) long errors))) sent tail p)

-- the errors of a reader that allocates

pub or_memory : {F G R : Type 0} → F ⊎ R → F ⊎ G ⊎ R
or_memory (inl p) = inl p
or_memory (inr p) = inr (inr p)

-- memory is taken for the lengths once their number is accepted
pub lengths_taken : (gives : Giving) (kept count : ℕ) (word : List ℕ) (old new : Option (List ℕ)) → DeclaresAccepted word count → kept < count
    → IfKnown old new (λ raw rest. gives raw 8 word rest) → IfKnown old new (TakesForLengths kept gives)
lengths_taken gives kept count word old new accepted more given = IfKnown-weaker old new (λ raw rest here. (
  record { word = word; count = count; given = here; declared = DeclaresCount-accepted word count accepted; accepted = in_range count accepted.some accepted.few },
  more,
)) given

-- out of memory stays out of memory
pub table_met_skipping : (rule : Padding) (F M : Type 0) (gives : Giving) (refuses : Refusing) (limit : Option ℕ) (kind : ErrorKind)
    (old new : Option (List ℕ)) → F ⊎ M ⊎ IfKnown old new (TableError rule gives refuses limit None kind) → F
    ⊎ M ⊎ IfKnown old new (StreamError rule gives refuses limit None kind)
table_met_skipping rule F M gives refuses limit kind old new (inl p) = inl p
table_met_skipping rule F M gives refuses limit kind old new (inr (inl p)) = inr (inl p)
table_met_skipping rule F M gives refuses limit kind old new (inr (inr p)) = or_memory (table_met rule F gives refuses limit None kind old new (inr p))

pub table_met_growing : (rule : Padding) (F M : Type 0) (segments bytes : ℕ) (gives : Giving) (refuses : Refusing) (limit : Option ℕ) (kind : ErrorKind)
    (old new : Option (List ℕ)) → F ⊎ (M × IfKnown old new (TakesForLengths (max 1 segments) gives))
    ⊎ IfKnown old new (TableError rule gives refuses limit None kind) → F
    ⊎ (M × IfKnown old new (Outgrows segments bytes rule gives limit)) ⊎ IfKnown old new (StreamError rule gives refuses limit None kind)
table_met_growing rule F M segments bytes gives refuses limit kind old new (inl p) = inl p
table_met_growing rule F M segments bytes gives refuses limit kind old new (inr (inl p)) = inr (inl (p.0, IfKnown-weaker old new (λ raw left takes. inl takes) p.1))
table_met_growing rule F M segments bytes gives refuses limit kind old new (inr (inr p)) = or_memory (table_met rule F gives refuses limit None kind old new (inr p))
