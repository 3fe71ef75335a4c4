-- Which line of the error table holds after a table that is found: the limit of words, or a line after an accepted
-- table.
use Rattle.std.proofs.Common.{◌≡◌, ℕ, ◌+◌, ◌-◌, ◌%◌, ◌<◌, ◌^◌, Option, None, inl, inr, List, ◌++◌, length, take, refl, sym, ap, ◌∙◌, arith}
use Rattle.std.proofs.lemmas.List.{length-map}
use Rattle.std.specs.Prelude.{sum}
use lib.Seq.{take-append-le}
use Rattle.capnp_frame.specs.declared.error.ErrorKind.{ErrorKind}
use Rattle.capnp_frame.specs.declared.error.ErrorKind.TheVariants.{MessageTooLarge, NonZeroPadding}
use Rattle.capnp_frame.specs.declared.serialize.segment_table.Padding.{Padding}
use Rattle.capnp_frame.specs.Prelude.{table_field, table_size, IsTable, lengths, word_count, AreWithin, Giving, Refusing, IsSource, TableFound, MessageFound, Unless, DeclaresCount, IsTooLarge, IsTooShort, FailsLeaving, RejectsPadding, LimitError, CountError, StartError, StreamError}
use Rattle.capnp_frame.proofs.tables.UniqueTableLengthsLemmas.{any_table}
use Rattle.capnp_frame.proofs.errors.UniqueErrorLineLemmas.{in_range, within_limit, small_room, given_some}

table_tells : {rule : Padding} (word others ns : List ℕ) → IsTable rule (word ++ others) ns → length ns < 512 → length word ≡ 8 → DeclaresCount word (length ns)
table_tells word others ns table few long =
    let front : take 4 (word ++ others) ≡ take 4 word = take-append-le 4 word others (omega arith) in
    let declared : table_field (length ns - 1) ≡ take 4 (word ++ others) = ap (take 4) (sym table.spelled) in
    let some = table.can.some in
    (length ns - 1, omega arith, declared ∙ front, same (length ns) some few)
  where
    same : (k : ℕ) → 0 < k → k < 512 → k ≡ (k - 1 + 1) % 2 ^ 32
    same k some few = omega arith

-- the line of the limit and those after it
StartError-table : {gives : Giving} {refuses : Refusing} (rule : Padding) (laws : IsSource gives refuses) (limit room : Option ℕ)
    (kind : ErrorKind) (A : List ℕ → List ℕ → Type 0) (raw left ns following : List ℕ)
    → (IsTooShort room (table_size (length ns)) → ⊥) → (sent : TableFound rule gives ns raw following) → 0 < length ns → length ns < 512
    → Unless (IsTooLarge ns limit) (FailsLeaving (MessageTooLarge (sum ns)) kind following left)
    (Unless (RejectsPadding rule (sent.first ++ sent.others) ns) (FailsLeaving NonZeroPadding kind following left) (A ns following))
    → StartError rule gives refuses limit room kind A raw left
StartError-table {gives} {refuses} rule laws limit room kind A raw left ns following fits sent some few lines =
    let long = laws.gives_all raw 8 sent.first sent.between sent.first_given in
    let declared = table_tells sent.first sent.others ns sent.table few long in
    let unread = given_some laws raw 8 sent.first sent.between sent.first_given (omega arith) in
    let at_limit : LimitError rule limit kind A left sent.first sent.others following =
    (ns, any_table (sent.first ++ sent.others) ns sent.table, lines) in
    let at_count : CountError rule gives refuses limit room kind A left sent.first sent.between =
    (length ns, declared, inr (in_range (length ns) some few, inr (fits, inr (sent.others, following, sent.others_given, at_limit)))) in
    inr (small_room room 8 (table_size (length ns)) (omega arith) fits, (unread, inr (sent.first, sent.between, sent.first_given, at_count)))

-- the lines after a table that is accepted
pub StartError-from : {gives : Giving} {refuses : Refusing} (rule : Padding) (laws : IsSource gives refuses) (limit room : Option ℕ)
    (kind : ErrorKind) (A : List ℕ → List ℕ → Type 0) (raw left ns following : List ℕ)
    → (IsTooShort room (table_size (length ns)) → ⊥) → TableFound rule gives ns raw following → AreWithin ns limit
    → A ns following → StartError rule gives refuses limit room kind A raw left
StartError-from rule laws limit room kind A raw left ns following fits sent accepts after =
    StartError-table rule laws limit room kind A raw left ns following fits sent accepts.some accepts.few
    (inr (within_limit ns limit accepts.size, inr ((λ rejects. rejects sent.table), after)))

-- a message of more words than the limit fails for it
pub past_limit : {gives : Giving} {refuses : Refusing} (rule : Padding) (laws : IsSource gives refuses) (limit : Option ℕ)
    (m : List (List ℕ)) (raw rest : List ℕ) → MessageFound rule gives m raw rest → length m < 512 → IsTooLarge (lengths m) limit
    → (left : List ℕ) × StreamError rule gives refuses limit None (MessageTooLarge (sum (lengths m))) raw left
past_limit rule laws limit m raw rest is_found few over =
    let some = is_found.table.table.can.some in (
      is_found.between,
      StartError-table rule laws limit None (MessageTooLarge (sum (lengths m))) _ raw is_found.between (lengths m) is_found.between
          (λ none. none) is_found.table some (omega (arith, length-map m word_count)) (inl (over, (refl, refl))),
    )
