-- What the unpacked table of a packed message says of the message's size: it is accepted where a reader accepts it, and
-- rejected with the reader's error.
use Rattle.std.proofs.Common.{◌≡◌, Option, None, ℕ, ◌+◌, ◌*◌, ◌/◌, ◌%◌, ◌<◌, ◌≤◌, ◌^◌, inl, inr, List, [], ◌++◌, length, take, drop, replicate, refl, sym, ap, ◌∙◌, subst, arith, length-append}
use Rattle.std.proofs.lemmas.List.{length-drop, length-replicate, length-take, take_at}
use borrow.Rule.Slice.PartMut.{put_mid}
use Rattle.std.specs.Prelude.{sum}
use Rattle.capnp_frame.specs.declared.error.ErrorKind.{ErrorKind}
use Rattle.capnp_frame.specs.declared.error.ErrorKind.TheVariants.{BufferNotLargeEnough, InvalidNumberOfSegments, MessageEndsPrematurely, MessageTooLarge, NonZeroPadding}
use Rattle.capnp_frame.specs.declared.message.options.ReaderOptions.{ReaderOptions}
use Rattle.capnp_frame.specs.declared.serialize.segment_table.Padding.TheVariants.{Any, Zero}
use Rattle.capnp_frame.specs.Prelude.{AreWithin, CountError, DeclaresCount, FailsLeaving, IsOutOfRange, IsTable, IsTooLarge, IsTooShort, KeepsPadding, LengthsError, LimitError, RejectsPadding, RestError, TableError, TableFound, Unless, by_fields, declared_lengths, declared_padding, table_size}
use Rattle.capnp_frame.proofs.encodings.PlainRequestsTakeFrameLemmas.{length-table}
use Rattle.capnp_frame.proofs.errors.UniqueErrorLineLemmas.{few_tells, in_range}
use Rattle.capnp_frame.proofs.slices.FlatErrorLemmas.{past_lengths}
use Rattle.capnp_frame.proofs.tables.TableDeclaredByFieldsLemmas.{Declared, declared_from_table, table_is}
use Rattle.capnp_frame.proofs.tables.UniqueTableLengthsLemmas.{table_field-once}
use Rattle.capnp_pack.specs.Prelude.{ChunkError, Unpacks, none_unpacked, unpacking}
use Rattle.capnp_c.specs.Sizes.{IsAcceptedTable, IsRejectedTable, UnpacksTable, declared_size}
use Rattle.capnp_c.proofs.MessageSizeFromTableLemmas.{table_accepted}

-- an accepted table is the one that is unpacked
pub found_accepted : (options : ReaderOptions) (packed table ns rest : List ℕ) → UnpacksTable packed table → TableFound Zero Unpacks ns packed rest
    → AreWithin ns options.traversal_limit_in_words → IsAcceptedTable options table × (declared_size table ≡ table_size (length ns) + 8 * sum ns)
found_accepted options packed table ns rest u is_found within =
    let first = unpacking.unique packed 8 is_found.first is_found.between u.first u.between is_found.first_given u.first_given in
    let second : Unpacks u.between (8 * (length ns / 2)) is_found.others rest = subst (λ raw. Unpacks raw (8 * (length ns / 2)) is_found.others rest) first.1 is_found.others_given in
    let long : length u.first ≡ 8 = u.first_given.3 in
    let starts : IsTable Zero (u.first ++ is_found.others) ns = subst (λ l. IsTable Zero (l ++ is_found.others) ns) first.0 is_found.table in
    let same : u.count ≡ length ns = few_tells u.first is_found.others ns u.count starts long within.few u.declared in
    let own : Unpacks u.between (8 * (length ns / 2)) u.others u.rest = subst (λ k. Unpacks u.between (8 * (k / 2)) u.others u.rest) same u.others_given in
    let others = unpacking.unique u.between (8 * (length ns / 2)) is_found.others rest u.others u.rest second own in
    let is : IsTable Zero (u.first ++ u.others) ns = subst (λ l. IsTable Zero (u.first ++ l) ns) others.0 starts in
    let told = table_accepted options (u.first ++ u.others) u.zeros ns is within in
    (subst (IsAcceptedTable options) (sym u.table_is) told.0, ap declared_size u.table_is ∙ told.1)

-- a table that a reader rejects by the limit or by the padding is rejected
lines_reject : (options : ReaderOptions) (table zeros ns following left : List ℕ) (kind : ErrorKind) → length (table ++ zeros) ≡ 2048
    → length ns < 512 → IsTable Any table ns
    → Unless (IsTooLarge ns options.traversal_limit_in_words) (FailsLeaving (MessageTooLarge (sum ns)) kind following left)
    (Unless (RejectsPadding Zero table ns) (FailsLeaving NonZeroPadding kind following left) ⊥)
    → IsRejectedTable options (table ++ zeros) kind
lines_reject options table zeros ns following left kind long few any =
    λ met. rejected (subst (λ l. Unless (IsTooLarge l limit) (FailsLeaving (MessageTooLarge (sum l)) kind following left)
    (Unless (RejectsPadding Zero table l) (FailsLeaving NonZeroPadding kind following left) ⊥)) (sym declared.lengths) met)
  where
    limit : Option ℕ
    limit = options.traversal_limit_in_words

    all : List ℕ
    all = table ++ zeros

    count : ℕ
    count = length ns

    declared : Declared Any all ns
    declared = declared_from_table table zeros ns any few

    size : length table ≡ 8 + 8 * (count / 2)
    size = length-table table ns any

    line : LengthsError by_fields Zero limit kind all count (declared_lengths count all) → ((words there : ℕ) → kind ≡ MessageEndsPrematurely words there → ⊥) → IsRejectedTable options all kind
    line met other =
        let some : 0 < count = any.can.some in
        (past_lengths by_fields Zero limit kind all count (omega (arith, long)) (omega arith) declared.count some few (omega (arith, long, few)) met, other)

    whole : KeepsPadding Zero (declared_padding count all) → IsTable Zero table (declared_lengths count all)
    whole kept =
        let front : take (table_size count) all ≡ table = take_at table zeros (table_size count) (omega (arith, size)) in
        subst (λ l. IsTable Zero l (declared_lengths count all)) front (table_is Zero all count declared.tells kept)

    rejected : Unless (IsTooLarge (declared_lengths count all) limit) (FailsLeaving (MessageTooLarge (sum (declared_lengths count all))) kind following left)
        (Unless (RejectsPadding Zero table (declared_lengths count all)) (FailsLeaving NonZeroPadding kind following left) ⊥)
        → IsRejectedTable options all kind
    rejected (inl (over, (is, kept))) = line (inl (over, is)) (λ words there other. let clash = sym is ∙ other in absurd (cc))
    rejected (inr (fits, inl (rejects, (is, kept)))) = line (inr (fits, inr (λ short. absurd (omega (arith, short, few, long)), inl (λ keeps. rejects (whole keeps), is))))
        (λ words there other. let clash = sym is ∙ other in absurd (cc))
    rejected (inr (fits, inr (kept, never))) = absurd never

-- a word declares one number of segments
same_count : (word : List ℕ) (m n : ℕ) → DeclaresCount word m → DeclaresCount word n → m ≡ n
same_count word m n p q =
    let last : p.0 ≡ q.0 = table_field-once p.0 q.0 p.1 q.1 (p.2 ∙ sym q.2) in
    p.3 ∙ ap (λ k. (k + 1) % 2 ^ 32) last ∙ sym q.3

-- so is the one that is unpacked
pub met_rejected : (options : ReaderOptions) (packed table left : List ℕ) (kind : ErrorKind) → UnpacksTable packed table
    → TableError Zero Unpacks ChunkError options.traversal_limit_in_words None kind packed left → IsRejectedTable options table kind
met_rejected options packed table left kind u =
    begun
  where
    limit : Option ℕ
    limit = options.traversal_limit_in_words

    limited : (others following : List ℕ) → Unpacks u.between (8 * (u.count / 2)) others following
        → LimitError Zero limit kind (λ ns following. ⊥) left u.first others following → IsRejectedTable options table kind
    limited others following given (ns, any, lines) =
        let same = unpacking.unique u.between (8 * (u.count / 2)) others following u.others u.rest given u.others_given in
        let is : IsTable Any (u.first ++ u.others) ns = subst (λ l. IsTable Any (u.first ++ l) ns) same.0 any in
        let own = subst (λ l. Unless (IsTooLarge ns limit) (FailsLeaving (MessageTooLarge (sum ns)) kind following left)
        (Unless (RejectsPadding Zero (u.first ++ l) ns) (FailsLeaving NonZeroPadding kind following left) ⊥)) same.0 lines in
        let size = length-table (u.first ++ u.others) ns is in
        let few : length ns < 512 = omega (arith, size, u.first_given.3, u.others_given.3, length-append u.first u.others, u.few) in
        subst (λ l. IsRejectedTable options l kind) (sym u.table_is)
        (lines_reject options (u.first ++ u.others) u.zeros ns following left kind (sym (ap length u.table_is) ∙ u.long) few is own)

    counted : (count : ℕ) → DeclaresCount u.first count → Unless (IsOutOfRange count) (FailsLeaving (InvalidNumberOfSegments count) kind u.between left)
        (Unless (IsTooShort None (table_size count)) (FailsLeaving BufferNotLargeEnough kind u.between left)
        (RestError Zero Unpacks ChunkError limit kind (λ ns following. ⊥) left u.first count u.between)) → IsRejectedTable options table kind
    counted count declares lines = accepted (subst (λ k. Unless (IsOutOfRange k) (FailsLeaving (InvalidNumberOfSegments k) kind u.between left)
        (Unless (IsTooShort None (table_size k)) (FailsLeaving BufferNotLargeEnough kind u.between left)
        (RestError Zero Unpacks ChunkError limit kind (λ ns following. ⊥) left u.first k u.between))) (same_count u.first count u.count declares u.declared) lines)
      where
        accepted : Unless (IsOutOfRange u.count) (FailsLeaving (InvalidNumberOfSegments u.count) kind u.between left)
            (Unless (IsTooShort None (table_size u.count)) (FailsLeaving BufferNotLargeEnough kind u.between left)
            (RestError Zero Unpacks ChunkError limit kind (λ ns following. ⊥) left u.first u.count u.between)) → IsRejectedTable options table kind
        accepted (inl (out, fails)) = absurd (in_range u.count u.some u.few out)
        accepted (inr (range, inl (short, fails))) = absurd short
        accepted (inr (range, inr (room, inl refuses))) = absurd (unpacking.apart u.between (8 * (u.count / 2)) u.others u.rest kind u.others_given refuses)
        accepted (inr (range, inr (room, inr (others, following, given, lines)))) = limited others following given lines

    begun : TableError Zero Unpacks ChunkError limit None kind packed left → IsRejectedTable options table kind
    begun (inl (short, fails)) = absurd short
    begun (inr (room, (some, inl refuses))) = absurd (unpacking.apart packed 8 u.first u.between kind u.first_given refuses)
    begun (inr (room, (some, inr (word, between, given, after)))) =
        let same = unpacking.unique packed 8 word between u.first u.between given u.first_given in
        let own = subst (λ l. CountError Zero Unpacks ChunkError limit None kind (λ ns following. ⊥) left u.first l) same.1
        (subst (λ l. CountError Zero Unpacks ChunkError limit None kind (λ ns following. ⊥) left l between) same.0 after) in
        counted own.0 own.1 own.2

-- where there are no packed bytes there is no table, and no line of its errors
pub nothing_found : (packed ns rest : List ℕ) → packed ≡ [] → TableFound Zero Unpacks ns packed rest → ⊥
nothing_found packed ns rest none is_found =
    let first = none_unpacked 8 is_found.first is_found.between (subst (λ raw. Unpacks raw 8 is_found.first is_found.between) none is_found.first_given) in
    absurd (omega (arith, first))

pub nothing_met : (limit : Option ℕ) (packed left : List ℕ) (kind : ErrorKind) → packed ≡ [] → TableError Zero Unpacks ChunkError limit None kind packed left → ⊥
nothing_met limit packed left kind none (inl (short, fails)) = short
nothing_met limit packed left kind none (inr (room, (some, lines))) = some none

pub nothing_unpacked : (packed table : List ℕ) → packed ≡ [] → UnpacksTable packed table → ⊥
nothing_unpacked packed table none u =
    let first = none_unpacked 8 u.first u.between (subst (λ raw. Unpacks raw 8 u.first u.between) none u.first_given) in
    absurd (omega (arith, first))

-- what is unpacked after the first word is put into the bytes of the longest table
pub put_long : (before others : List ℕ) (n : ℕ) → length others ≡ n → 8 + n ≤ length before → length (put_mid 8 n before others) ≡ length before
put_long before others n fill room = simp (length-append, length-take, length-drop) (omega arith)

pub first_long : (word : List ℕ) → length word ≡ 8 → length (word ++ drop 8 (replicate 2048 0)) ≡ 2048
first_long word long =
    let zeros : List ℕ = replicate 2048 0 in
    let size : length zeros ≡ 2048 = length-replicate {A = ℕ} 2048 0 in
    omega (arith, long, size, length-append word (drop 8 zeros), length-drop 8 zeros)
