-- A message that is found by requests, of its table and then of its segments: what they take is the message, and
-- at most one is found.
use Rattle.std.proofs.Common.{◌≡◌, ℕ, ◌+◌, ◌*◌, Option, Some, None, List, [], ◌∷◌, ◌++◌, length, take, drop, refl, sym, ap, ◌∙◌, subst, arith, ◌↔◌}
use Rattle.std.proofs.lemmas.List.{length-take-le, length-drop}
use Rattle.std.specs.Prelude.{sum}
use Rattle.std.specs.List.{concat, AllByRecursion}
use Rattle.std.proofs.lemmas.List.Sums.{sum_by-cons}
use Rattle.capnp_frame.specs.Prelude.{IsWholeWords, word_count, lengths, size_in_words, AreWithin, IsWithin, cut, Giving, IfKnown, TableFound, MessageFound, overwritten, same_front, zero_padded_table}
use Rattle.capnp_frame.specs.declared.serialize.segment_table.Padding.{Padding}
use Rattle.std.proofs.lemmas.Option.{none-some, same_Some}
use Rattle.capnp_frame.proofs.tables.PartsCutAtRunningSumsLemmas.{concat-cut}
use Rattle.capnp_frame.proofs.sources.JoinedRequestPartsLemmas.{IfKnown-join}
use Rattle.capnp_frame.specs.declared.serialize.segment_table.Padding.TheVariants.{Any, Zero}
use Rattle.capnp_frame.proofs.tables.UniqueTableLengthsLemmas.{any_table, zero_table, TableFound-once}
use Rattle.capnp_frame.proofs.encodings.PlainRequestsTakeFrameLemmas.{zero_table_is}

-- the parts have the lengths that cut them, and are whole words
pub lengths-cut : (ns bytes : List ℕ) → length bytes ≡ 8 * sum ns → (lengths (cut ns bytes) ≡ ns) × AllByRecursion IsWholeWords (cut ns bytes)
lengths-cut [] bytes all = (refl, tt)
lengths-cut (n ∷ ns) bytes all =
    let total : sum (n ∷ ns) ≡ n + sum ns = sum_by-cons (λ x. x) n ns in
    let part : length (take (8 * n) bytes) ≡ 8 * n = length-take-le (8 * n) bytes (omega arith) in
    let inner = lengths-cut ns (drop (8 * n) bytes) (omega (arith, length-drop (8 * n) bytes)) in
    let here : word_count (take (8 * n) bytes) ≡ n = omega arith in
    (ap (λ k. k ∷ lengths (cut ns (drop (8 * n) bytes))) here ∙ ap (λ l. n ∷ l) inner.0, (omega arith, inner.1))

-- what is read after its table is the message
pub MessageFound-cut : (rule : Padding) (gives : Giving) (ns bytes : List ℕ) (old mid new : Option (List ℕ))
    → length bytes ≡ 8 * sum ns → IfKnown old mid (TableFound rule gives ns)
    → IfKnown mid new (λ raw rest. gives raw (length bytes) bytes rest)
    → IfKnown old new (MessageFound rule gives (cut ns bytes))
MessageFound-cut rule gives ns bytes old mid new long table given =
    let lens = lengths-cut ns bytes long in
    let all : length bytes ≡ 8 * size_in_words (cut ns bytes) = long ∙ ap (λ l. 8 * sum l) (sym lens.0) in
    IfKnown-join old mid new (λ raw left rest table given. record {
      between = left;
      table = subst (λ l. TableFound rule gives l raw left) (sym lens.0) table;
      given = subst (λ l. gives left (8 * size_in_words (cut ns bytes)) l rest) (sym (concat-cut ns bytes long)) (subst (λ k. gives left k bytes rest) all given);
      whole = lens.1;
    }) table given

pub IsWithin-cut : (ns bytes : List ℕ) (limit : Option ℕ) → length bytes ≡ 8 * sum ns → AreWithin ns limit → IsWithin (cut ns bytes) limit
IsWithin-cut ns bytes limit long accepts = subst (λ l. AreWithin l limit) (sym (lengths-cut ns bytes long).0) accepts

-- whole words of the same lengths and bytes
parts_once : (xs ys : List (List ℕ)) → AllByRecursion IsWholeWords xs → AllByRecursion IsWholeWords ys → lengths xs ≡ lengths ys → concat xs ≡ concat ys → xs ≡ ys
parts_once [] [] p q lens e = refl
parts_once [] (y ∷ ys) p q lens e = let short : length (lengths []) ≡ length (lengths (y ∷ ys)) = ap length lens in absurd (omega arith)
parts_once (x ∷ xs) [] p q lens e = let short : length (lengths (x ∷ xs)) ≡ length (lengths []) = ap length lens in absurd (omega arith)
parts_once (x ∷ xs) (y ∷ ys) p q lens e =
    let first : word_count x ≡ word_count y = cc in
    let others : lengths xs ≡ lengths ys = cc in
    let whole = p.0 in
    let also = q.0 in
    let parts = same_front x y (concat xs) (concat ys) (omega arith) e in
    ap (λ l. l ∷ xs) parts.0 ∙ ap (λ l. y ∷ l) (parts_once xs ys p.1 q.1 others parts.1)

-- at most one message is at a front
pub MessageFound-once : {rule other : Padding} (gives : Giving) (raw rest left : List ℕ) (segments others : List (List ℕ))
    → ((raw : List ℕ) (n : ℕ) (bytes rest others left : List ℕ) → gives raw n bytes rest → gives raw n others left
    → (bytes ≡ others) × (rest ≡ left)) → ((raw : List ℕ) (n : ℕ) (bytes rest : List ℕ) → gives raw n bytes rest
    → length bytes ≡ n) → MessageFound rule gives segments raw rest → MessageFound other gives others raw left
    → (segments ≡ others) × (rest ≡ left)
MessageFound-once gives raw rest left segments others unique all p q =
    let table = TableFound-once gives raw (lengths segments) p.between (lengths others) q.between unique all p.table q.table in
    let same : 8 * size_in_words segments ≡ 8 * size_in_words others = ap (λ l. 8 * sum l) table.0 in
    let rests = unique q.between (8 * size_in_words others) (concat segments) rest (concat others) left
    (subst (λ k. gives q.between k (concat segments) rest) same
    (subst (λ l. gives l (8 * size_in_words segments) (concat segments) rest) table.1 p.given)) q.given in
    (parts_once segments others p.whole q.whole table.0 rests.0, rests.1)

pub word_not_empty : (gives : Giving) (old mid : Option (List ℕ)) (word : List ℕ) → ((k : ℕ) (bytes rest : List ℕ) → gives [] k bytes rest → k ≡ 0)
    → IfKnown old mid (λ raw rest. gives raw 8 word rest) → old ≡ Some [] → ⊥
word_not_empty gives None mid word empty given e = absurd (none-some [] e)
word_not_empty gives (Some raw) None word empty given e = absurd given
word_not_empty gives (Some raw) (Some left) word empty given e =
    let eight : ◌≡◌ {A = ℕ} 8 0 = empty 8 word left (subst (λ l. gives l 8 word left) (same_Some raw [] e) given) in
    absurd (omega arith)

pub table_not_empty : (rule : Padding) (gives : Giving) (old mid : Option (List ℕ)) (ns : List ℕ)
    → ((k : ℕ) (bytes rest : List ℕ) → gives [] k bytes rest → k ≡ 0) → IfKnown old mid (TableFound rule gives ns)
    → old ≡ Some [] → ⊥
table_not_empty rule gives None mid ns empty table e = absurd (none-some [] e)
table_not_empty rule gives (Some raw) None ns empty table e = absurd table
table_not_empty rule gives (Some raw) (Some left) ns empty table e =
    word_not_empty gives (Some raw) (Some table.between) table.first empty table.first_given e

-- the parts of bytes that are overwritten
pub overwritten_parts : (ns items : List ℕ) (segments : List (List ℕ)) (len : ℕ) (w : List ℕ)
    → length items ≡ 8 * sum ns → len ≡ length items → cut ns items ≡ segments
    → cut ns (take len (w ++ drop (length w) items)) ≡ cut (lengths segments) (overwritten (concat segments) w)
overwritten_parts ns items segments len w long same parts =
    let bytes : concat segments ≡ items = ap concat (sym parts) ∙ concat-cut ns items long in
    let lens : lengths segments ≡ ns = ap lengths (sym parts) ∙ (lengths-cut ns items long).0 in
    ap (λ k. cut ns (take k (w ++ drop (length w) items))) same ∙ ap (λ l. cut ns (overwritten l w)) (sym bytes) ∙ ap (λ l. cut l (overwritten (concat segments) w)) (sym lens)

-- the requests of one source give a message where the requests of another do
pub MessageFound-map : {rule : Padding} {gives others : Giving}
    (given : (raw : List ℕ) (n : ℕ) (bytes rest : List ℕ) → gives raw n bytes rest → others raw n bytes rest)
    (segments : List (List ℕ)) (raw rest : List ℕ) → MessageFound rule gives segments raw rest
    → MessageFound rule others segments raw rest
MessageFound-map given segments raw rest is_found = record {
  between = is_found.between;
  table = record {
    first = is_found.table.first;
    others = is_found.table.others;
    between = is_found.table.between;
    first_given = given _ _ _ _ is_found.table.first_given;
    others_given = given _ _ _ _ is_found.table.others_given;
    table = is_found.table.table;
  };
  given = given _ _ _ _ is_found.given;
  whole = is_found.whole;
}

-- a message whose table has zero padding, as one of any padding
pub zero_message_is : (gives : Giving) (m : List (List ℕ)) (raw rest : List ℕ) → MessageFound Zero gives m raw rest
    ↔ ((any : MessageFound Any gives m raw rest) × (any.table.first ++ any.table.others ≡ zero_padded_table (lengths m)))
zero_message_is gives m raw rest = (
  λ is_found. (
    record {
      between = is_found.between;
      table = record {
        first = is_found.table.first;
        others = is_found.table.others;
        between = is_found.table.between;
        first_given = is_found.table.first_given;
        others_given = is_found.table.others_given;
        table = any_table (is_found.table.first ++ is_found.table.others) (lengths m) is_found.table.table;
      };
      given = is_found.given;
      whole = is_found.whole;
    },
    zero_table (is_found.table.first ++ is_found.table.others) (lengths m) is_found.table.table,
  ),
  λ (any, is). record {
    between = any.between;
    table = record {
      first = any.table.first;
      others = any.table.others;
      between = any.table.between;
      first_given = any.table.first_given;
      others_given = any.table.others_given;
      table = (zero_table_is (any.table.first ++ any.table.others) (lengths m)).1 (any.table.table, is);
    };
    given = any.given;
    whole = any.whole;
  },
)
