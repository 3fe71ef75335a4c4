-- With which kind the readers of slices and buffers fail: at most one line of their table is the first that holds,
-- and none is where a message is.
use Rattle.std.proofs.Common.{◌≡◌, ℕ, ◌+◌, ◌-◌, ◌*◌, ◌/◌, ◌%◌, ◌<◌, ◌≤◌, ◌^◌, Option, None, inl, inr, List, ◌++◌, length, take, refl, sym, ap, ◌∙◌, subst, arith, append_assoc, length-append}
use Rattle.std.specs.Prelude.{sum}
use lib.Seq.{take-append-le}
use Rattle.std.proofs.lemmas.List.{take_at}
use Rattle.std.proofs.lemmas.Bool.{cases_lt}
use Rattle.capnp_frame.specs.declared.error.ErrorKind.{ErrorKind}
use Rattle.capnp_frame.specs.declared.error.ErrorKind.TheVariants.{BufferNotLargeEnough, InvalidNumberOfSegments, MessageEndsPrematurely, MessageTooLarge, NonZeroPadding}
use Rattle.capnp_frame.specs.declared.serialize.segment_table.Padding.{Padding}
use Rattle.capnp_frame.specs.declared.serialize.segment_table.Padding.TheVariants.{Any}
use Rattle.capnp_frame.specs.Prelude.{table_field, table_size, KeepsPadding, IsTable, KeepsLimit, IsWithin, Splits, RunsShort, TableFound, Unless, DeclaresCount, TakesForLengths, FailsLeaving, IsTooShort, LimitError, RestError, IsOutOfRange, IsTooLarge, RejectsPadding, TableError, HasFrame, number, declared_lengths, declared_padding, FlatForm, by_words, by_fields, cut_kind, count_end, count_of, AcceptsSeveral, lengths_end, CutsSegments, LengthsError, FlatCountError, FlatError}
use Rattle.capnp_frame.proofs.tables.UniqueTableLengthsLemmas.{count_declared}
use Rattle.capnp_frame.proofs.encodings.PlainRequestsTakeFrameLemmas.{length-table}
use Rattle.capnp_frame.proofs.tables.TableDeclaredByFieldsLemmas.{number-table_field, table_is, Declared, declared_from_table}
use Rattle.capnp_frame.proofs.encodings.DeclaredMessageIsFrontFrameLemmas.{holds_from_begins}
use Rattle.capnp_frame.proofs.errors.UniqueErrorLineLemmas.{Unless-once, Unless-after, in_range, within_limit}

-- one line at most is the first that holds
pub FlatError-once : (form : FlatForm) (rule : Padding) (limit : Option ℕ) (kind other : ErrorKind) (bytes : List ℕ) → FlatError form rule limit kind bytes → FlatError form rule limit other bytes → kind ≡ other
FlatError-once form rule limit kind other bytes =
    Unless-once same (Unless-once same (Unless-once same (Unless-once same (Unless-once same (Unless-once same (Unless-once same (λ x y. x.1 ∙ sym y.1)))))))
  where
    same : {own : ErrorKind} → kind ≡ own → other ≡ own → kind ≡ other
    same p q = p ∙ sym q

-- the lines after a test that fails

past_empty : (form : FlatForm) (rule : Padding) (limit : Option ℕ) (kind : ErrorKind) (bytes : List ℕ) → count_end form ≤ length bytes
    → 0 < count_end form → FlatCountError form rule limit kind bytes (count_of form (number bytes))
    → FlatError form rule limit kind bytes
past_empty form rule limit kind bytes there some after = inr (λ none. absurd (omega (arith, ap length none)), inr (λ short. absurd (omega arith), after))

-- the first field, or the first word, is cut
pub cut_first : (form : FlatForm) (rule : Padding) (limit : Option ℕ) (bytes : List ℕ) → 0 < length bytes → length bytes < count_end form → FlatError form rule limit (cut_kind form (length bytes)) bytes
cut_first form rule limit bytes some short = inr (λ none. absurd (omega (arith, ap length none)), inl (short, refl))

-- the number of segments is out of range
pub count_out : (form : FlatForm) (rule : Padding) (limit : Option ℕ) (bytes : List ℕ) (count : ℕ) → count_end form ≤ length bytes
    → 0 < count_end form → count_of form (number bytes) ≡ count → IsOutOfRange count
    → FlatError form rule limit (InvalidNumberOfSegments count) bytes
count_out form rule limit bytes count there some is out = past_empty form rule limit (InvalidNumberOfSegments count) bytes there
    some (subst (FlatCountError form rule limit (InvalidNumberOfSegments count) bytes) (sym is) (inl (out, refl)))

-- the lengths are cut
pub cut_lengths : (form : FlatForm) (rule : Padding) (limit : Option ℕ) (bytes : List ℕ) (count : ℕ) → count_end form ≤ length bytes
    → 0 < count_end form → count_of form (number bytes) ≡ count → 0 < count → count < 512
    → length bytes < lengths_end form count → FlatError form rule limit (cut_kind form (length bytes)) bytes
cut_lengths form rule limit bytes count there first is some few short = past_empty form rule limit (cut_kind form (length bytes))
    bytes there first (subst (FlatCountError form rule limit (cut_kind form (length bytes)) bytes) (sym is)
    (inr (in_range count some few, inl (short, refl))))

-- what is met after the lengths
pub past_lengths : (form : FlatForm) (rule : Padding) (limit : Option ℕ) (kind : ErrorKind) (bytes : List ℕ) (count : ℕ)
    → count_end form ≤ length bytes → 0 < count_end form → count_of form (number bytes) ≡ count → 0 < count
    → count < 512 → lengths_end form count ≤ length bytes
    → LengthsError form rule limit kind bytes count (declared_lengths count bytes) → FlatError form rule limit kind bytes
past_lengths form rule limit kind bytes count there first is some few all after = past_empty form rule limit kind bytes there
    first (subst (FlatCountError form rule limit kind bytes) (sym is)
    (inr (in_range count some few, inr (λ short. absurd (omega arith), after))))

-- the segments are cut
pub cut_segments : (form : FlatForm) (rule : Padding) (limit : Option ℕ) (bytes : List ℕ) (count total : ℕ)
    → KeepsLimit (declared_lengths count bytes) limit → KeepsPadding rule (declared_padding count bytes) → table_size count ≤ length bytes
    → total ≡ sum (declared_lengths count bytes) → length bytes < table_size count + 8 * total
    → LengthsError form rule limit (MessageEndsPrematurely total ((length bytes - table_size count) / 8)) bytes count
    (declared_lengths count bytes)
cut_segments form rule limit bytes count total keeps kept room is short =
    inr (
      within_limit (declared_lengths count bytes) limit keeps,
      inr (
        λ cut. absurd (omega arith),
        inr (
          λ rejected. rejected kept,
          subst (CutsSegments
              (MessageEndsPrematurely total ((length bytes - table_size count) / 8)) bytes count) is (short, refl),
        ),
      ),
    )

-- the number of segments that is declared where an accepted message is at the front
counted : (form : FlatForm) (last count : ℕ) → last + 1 ≡ count → count < 512 → count_of form last ≡ count
counted (by_words empty) last count declared few = omega arith
counted by_fields last count declared few = declared

pub frame_counted : (form : FlatForm) (rule : Padding) (limit : Option ℕ) (bytes : List ℕ) (segments : List (List ℕ)) (rest : List ℕ)
    → HasFrame rule bytes segments rest → IsWithin segments limit → count_of form (number bytes) ≡ length segments
frame_counted form rule limit bytes segments rest begins within =
    let front = holds_from_begins rule bytes segments rest limit begins within in
    counted form (number bytes) (length segments) front.count front.holds.table.few

-- and there no line holds
pub FlatError-apart : (form : FlatForm) (rule : Padding) (limit : Option ℕ) (kind : ErrorKind) (bytes : List ℕ)
    (segments : List (List ℕ)) (rest : List ℕ) → HasFrame rule bytes segments rest → IsWithin segments limit
    → FlatError form rule limit kind bytes → ⊥
FlatError-apart form rule limit kind bytes segments rest begins within =
    let front = holds_from_begins rule bytes segments rest limit begins within in
    let count = length segments in
    let declared = front.count in
    let few = front.holds.table.few in
    let some = front.holds.table.some in
    let room = front.holds.room in
    let declared_count : count_of form (number bytes) ≡ count = counted form (number bytes) count declared few in
    let keeps : KeepsLimit (declared_lengths count bytes) limit = subst (λ l. KeepsLimit l limit) (sym front.lengths_are) within.size in
    let fewest = first_end form count some in
    let less = within_table form count in
    Unless-after (λ none. absurd (omega (arith, ap length none)))
    (Unless-after (λ short. absurd (omega arith)) (λ x.
    let counted_so : FlatCountError form rule limit kind bytes count = subst (FlatCountError form rule limit kind bytes) declared_count x in
    Unless-after (in_range count some few) (Unless-after (λ short. absurd (omega arith))
    (Unless-after (within_limit (declared_lengths count bytes) limit keeps)
    (Unless-after (λ short. absurd (omega arith)) (Unless-after (λ rejected. rejected front.padding)
    (λ cuts. let short = cuts.0 in absurd (omega arith))))))
    counted_so))
  where
    first_end : (form : FlatForm) (count : ℕ) → 0 < count → count_end form ≤ table_size count
    first_end (by_words empty) count some = omega arith
    first_end by_fields count some = omega arith

    within_table : (form : FlatForm) (count : ℕ) → lengths_end form count ≤ table_size count
    within_table (by_words empty) count = omega arith
    within_table by_fields count = omega arith

-- the stream reader's table over a slice

pub declared_by_requests : (rule : Padding) (bytes ns rest : List ℕ) → TableFound rule Splits ns bytes rest → length ns < 512 → Declared rule bytes ns × (length bytes ≡ table_size (length ns) + length rest)
declared_by_requests rule bytes ns rest is_found few =
    let table = is_found.first ++ is_found.others in
    let bytes_are : bytes ≡ table ++ rest = is_found.first_given.0 ∙ ap (λ l. is_found.first ++ l) is_found.others_given.0 ∙ sym (append_assoc is_found.first is_found.others rest) in
    let long = length-table table ns is_found.table in
    (subst (λ l. Declared rule l ns) (sym bytes_are) (declared_from_table table rest ns is_found.table few), ap length bytes_are ∙ length-append table rest ∙ omega arith)

-- the table at the front keeps the rule where its padding there does
front_table : (rule : Padding) (bytes table rest ns : List ℕ) → bytes ≡ table ++ rest → IsTable Any table ns → Declared Any bytes ns
    → KeepsPadding rule (declared_padding (length ns) bytes) → IsTable rule table ns
front_table rule bytes table rest ns is any declared kept =
    let size = table_size (length ns) in
    let front : take size bytes ≡ table = ap (take size) is ∙ take_at table rest size (omega (arith, length-table table ns any)) in
    subst (IsTable rule table) declared.lengths (subst (λ l. IsTable rule l (declared_lengths (length ns) bytes)) front (table_is rule bytes (length ns) declared.tells kept))

below_range : (count : ℕ) → (IsOutOfRange count → ⊥) → count < 512
below_range count range = elim (cases_lt count 512) [ inl few ↦ few | inr many ↦ absurd (range (inr many)) ]

above_range : (count : ℕ) → (IsOutOfRange count → ⊥) → 0 < count
above_range count range = elim (cases_lt 0 count) [ inl some ↦ some | inr none ↦ absurd (range (inl (omega arith))) ]

counts : (last count many : ℕ) → count ≡ (last + 1) % 2 ^ 32 → last + 1 ≡ many → many ≤ 2 ^ 32 → count < 512 → 0 < count → count ≡ many
counts last count many is declared most few some = omega arith

-- the number of segments that the first word at the front declares
first_tells : (empty : ErrorKind) (bytes word left : List ℕ) (count : ℕ) → Splits bytes 8 word left → DeclaresCount word count
    → (length bytes ≡ 8 + length left) × (count_of (by_words empty) (number bytes) ≡ count)
first_tells empty bytes word left count (split, long) (last, fits, read, is) =
    let front : table_field last ≡ take 4 bytes = read ∙ sym (take-append-le 4 word left (omega arith)) ∙ ap (take 4) (sym split) in
    (ap length split ∙ length-append word left ∙ ap (λ k. k + length left) long, ap (λ k. (k + 1) % 2 ^ 32) (number-table_field last bytes fits front) ∙ sym is)

pub several_accepted : (empty : ErrorKind) (bytes left : List ℕ) → TakesForLengths 1 Splits bytes left → AcceptsSeveral (by_words empty) bytes
several_accepted empty bytes left (is_found, more) =
    let declared = first_tells empty bytes is_found.word left is_found.count is_found.given is_found.declared in
    let long = declared.0 in
    (omega arith, subst (λ k. IsOutOfRange k → ⊥) (sym declared.1) is_found.accepted, subst (λ k. 1 < k) (sym declared.1) more)

pub words_error : (empty : ErrorKind) (rule : Padding) (limit : Option ℕ) (kind : ErrorKind) (bytes left : List ℕ)
    → TableError rule Splits RunsShort limit None kind bytes left → FlatError (by_words empty) rule limit kind bytes
words_error empty rule limit kind bytes left (inl memory) = absurd memory.0
words_error empty rule limit kind bytes left (inr (room, (some, inl (short, is)))) = inr (some, inl (short, is))
words_error empty rule limit kind bytes left (inr (room, (some, inr (word, between, given, (count, tells, after))))) = inr (
  some,
  inr (
    λ short. absurd (omega (arith, long)),
    subst (FlatCountError (by_words empty) rule limit kind bytes) (sym same) (counted after),
  ),
)
  where
    declared : (length bytes ≡ 8 + length between) × (count_of (by_words empty) (number bytes) ≡ count)
    declared = first_tells empty bytes word between count given tells

    long : length bytes ≡ 8 + length between
    long = declared.0

    same : count_of (by_words empty) (number bytes) ≡ count
    same = declared.1

    -- the limit's line, and the padding's
    lines : (ns others following : List ℕ) → (length bytes ≡ table_size (length ns) + length following) → Declared Any bytes ns → count ≡ length ns
        → bytes ≡ (word ++ others) ++ following → IsTable Any (word ++ others) ns
        → Unless (IsTooLarge ns limit) (FailsLeaving (MessageTooLarge (sum ns)) kind following left)
        (Unless (RejectsPadding rule (word ++ others) ns) (FailsLeaving NonZeroPadding kind following left) ⊥)
        → LengthsError (by_words empty) rule limit kind bytes count ns
    lines ns others following room declared exact is any (inl (over, fails)) = inl (over, fails.0)
    lines ns others following room declared exact is any (inr (keeps, inr (taken, never))) = absurd never
    lines ns others following room declared exact is any (inr (keeps, inl (rejects, fails))) =
        let table = λ (kept : KeepsPadding rule (declared_padding count bytes)). front_table rule bytes (word ++ others) following ns is any declared
        (subst (λ k. KeepsPadding rule (declared_padding k bytes)) exact kept) in
        inr (keeps, inr (λ short. absurd (omega arith), inl ((λ kept. rejects (table kept)), fails.0)))

    limited : (others following : List ℕ) → (IsOutOfRange count → ⊥) → Splits between (8 * (count / 2)) others following
        → LimitError rule limit kind (λ ns following. ⊥) left word others following
        → FlatCountError (by_words empty) rule limit kind bytes count
    limited others following range split (ns, table, met) =
        let few = below_range count range in
        let many = count_declared word others ns tells.0 table given.1 tells.2 tells.1 in
        let exact : count ≡ length ns = counts tells.0 count (length ns) tells.3 many table.can.count few (above_range count range) in
        let is_found : TableFound Any Splits ns bytes following = record {
          first = word;
          others = others;
          between = between;
          first_given = given;
          others_given = subst
              (λ k. Splits between (8 * (k / 2)) others following) exact split;
          table = table;
        } in
        let declared = declared_by_requests Any bytes ns following is_found (omega arith) in
        let lens : declared_lengths count bytes ≡ ns = ap (λ k. declared_lengths k bytes) exact ∙ declared.0.lengths in
        let room = declared.1 in
        let bytes_are : bytes ≡ (word ++ others) ++ following = given.0 ∙ ap (λ l. word ++ l) split.0 ∙ sym (append_assoc word others following) in
        inr (range, inr (λ short. absurd (omega arith), subst (LengthsError (by_words empty) rule limit kind bytes count) (sym lens) (lines ns others following declared.1 declared.0 exact bytes_are table met)))

    counted : Unless (IsOutOfRange count) (FailsLeaving (InvalidNumberOfSegments count) kind between left)
        (Unless (IsTooShort None (table_size count)) (FailsLeaving BufferNotLargeEnough kind between left)
        (RestError rule Splits RunsShort limit kind (λ ns following. ⊥) left word count between))
        → FlatCountError (by_words empty) rule limit kind bytes count
    counted (inl (out, fails)) = inl (out, fails.0)
    counted (inr (range, inl memory)) = absurd memory.0
    counted (inr (range, inr (room, inl (short, is)))) = inr (range, inl (omega (arith, long), is))
    counted (inr (range, inr (room, inr (others, following, split, met)))) = limited others following range split met
