-- Bytes are a table of at most one list of lengths. A table of zero padding is the one that is written.
use Rattle.std.proofs.Common.{◌≡◌, ℕ, ◌+◌, ◌-◌, ◌*◌, ◌/◌, ◌<◌, ◌^◌, List, [], ◌∷◌, ◌++◌, length, take, drop}
use Rattle.std.proofs.Common.{refl, sym, ap, ◌∙◌, subst, arith, append_assoc, length-append, replicate}
use lib.Seq.{take-append-le}
use Rattle.std.specs.List.{flat_map, AllByRecursion}
use Rattle.std.specs.Int.{w32, from_le_bytes}
use Rattle.std.proofs.lemmas.Nat.{from_le_bytes-to_le_bytes_4}
use Rattle.std.proofs.lemmas.List.{drop_at, length-replicate}
use Rattle.capnp_frame.specs.Prelude.{same_front, table_field, FitsField, table_bytes, zero_padded_table, KeepsPadding, IsTable, Giving, TableFound}
use Rattle.capnp_frame.specs.declared.serialize.segment_table.Padding.{Padding}
use Rattle.capnp_frame.specs.declared.serialize.segment_table.Padding.TheVariants.{Any, Zero}

pub AllByRecursion-push : {X : Type 0} (P : X → Type 0) (xs : List X) (y : X) → AllByRecursion P xs → P y → AllByRecursion P (xs ++ y ∷ [])
AllByRecursion-push P [] y all here = (here, tt)
AllByRecursion-push P (x ∷ xs) y all here = (all.0, AllByRecursion-push P xs y all.1 here)

pub table_field-once : (m n : ℕ) → m < 2 ^ 32 → n < 2 ^ 32 → table_field m ≡ table_field n → m ≡ n
table_field-once m n p q e = sym (from_le_bytes-to_le_bytes_4 m p) ∙ ap (from_le_bytes w32) e ∙ from_le_bytes-to_le_bytes_4 n q

pub length-fields : (ns : List ℕ) → length (flat_map table_field ns) ≡ 4 * length ns
length-fields [] = refl
length-fields (n ∷ ns) = omega (arith, length-append (table_field n) (flat_map table_field ns), length-fields ns)

fields_once : (ns ms : List ℕ) → AllByRecursion FitsField ns → AllByRecursion FitsField ms → flat_map table_field ns ≡ flat_map table_field ms → ns ≡ ms
fields_once [] [] p q e = refl
fields_once [] (m ∷ ms) p q e = absurd (omega (arith, ap length e, length-fields (m ∷ ms)))
fields_once (n ∷ ns) [] p q e = absurd (omega (arith, ap length e, length-fields (n ∷ ns)))
fields_once (n ∷ ns) (m ∷ ms) p q e =
    let parts = same_front (table_field n) (table_field m) (flat_map table_field ns) (flat_map table_field ms) refl e in
    ap (λ k. k ∷ ns) (table_field-once n m p.0 q.0 parts.0) ∙ ap (λ l. m ∷ l) (fields_once ns ms p.1 q.1 parts.1)

-- the first field of a table is the number of its lengths less one
pub count_declared : {rule : Padding} (first others ns : List ℕ) (n : ℕ) → IsTable rule (first ++ others) ns → length first ≡ 8 → table_field n ≡ take 4 first → n < 2 ^ 32 → n + 1 ≡ length ns
count_declared first others ns n table word read fits =
    let front : take 4 (first ++ others) ≡ take 4 first = take-append-le 4 first others (omega arith) in
    let declared : table_field (length ns - 1) ≡ take 4 (first ++ others) = ap (take 4) (sym table.spelled) in
    let some = table.can.some in
    let most = table.can.count in
    let same : n ≡ length ns - 1 = table_field-once n (length ns - 1) fits (omega arith) (read ∙ sym front ∙ sym declared) in
    omega arith

-- bytes are a table of at most one list of lengths
pub IsTable-once : {rule other : Padding} (encoding ns ms : List ℕ) → IsTable rule encoding ns → IsTable other encoding ms → ns ≡ ms
IsTable-once encoding ns ms p q =
    let whole : table_bytes ns p.padding ≡ table_bytes ms q.padding = sym p.spelled ∙ q.spelled in
    let some = p.can.some in
    let others = q.can.some in
    let few = p.can.count in
    let most = q.can.count in
    let counts = same_front (table_field (length ns - 1)) (table_field (length ms - 1)) (flat_map table_field ns ++ p.padding)
    (flat_map table_field ms ++ q.padding) refl (sym (append_assoc (table_field (length ns - 1)) (flat_map table_field ns) p.padding)
    ∙ whole ∙ append_assoc (table_field (length ms - 1)) (flat_map table_field ms) q.padding) in
    let less : length ns - 1 ≡ length ms - 1 = table_field-once (length ns - 1) (length ms - 1) (omega arith) (omega arith) counts.0 in
    let fields = same_front (flat_map table_field ns) (flat_map table_field ms) p.padding q.padding (omega (arith, length-fields ns, length-fields ms)) counts.1 in
    fields_once ns ms p.can.each q.can.each fields.0

-- the padding is after the fields
pub padding_at : {rule : Padding} (encoding ns : List ℕ) (count : ℕ) → (table : IsTable rule encoding ns) → count ≡ length ns → drop (4 * (count + 1)) encoding ≡ table.padding
padding_at encoding ns count table many =
    let front = table_field (length ns - 1) ++ flat_map table_field ns in
    let some = table.can.some in
    let long : length front ≡ 4 * (count + 1) = omega (arith, length-append (table_field (length ns - 1)) (flat_map table_field ns), length-fields ns) in
    ap (drop (4 * (count + 1))) table.spelled ∙ drop_at front table.padding (4 * (count + 1)) long

-- a table by a rule is one of any padding
pub any_table : {rule : Padding} (encoding ns : List ℕ) → IsTable rule encoding ns → IsTable Any encoding ns
any_table encoding ns table = record { can = table.can; padding = table.padding; padded = table.padded; kept = tt; spelled = table.spelled }

-- each rule accepts zeros
pub zeros_kept : (rule : Padding) (count : ℕ) → KeepsPadding rule (replicate count 0)
zeros_kept Any count = tt
zeros_kept Zero count = ap (λ k. replicate k 0) (sym (length-replicate count 0))

-- and a table of zero padding is the one that is written
pub zero_table : (encoding ns : List ℕ) → IsTable Zero encoding ns → encoding ≡ zero_padded_table ns
zero_table encoding ns table = table.spelled ∙ ap (table_bytes ns) (table.kept ∙ ap (λ k. replicate k 0) table.padded)

-- the number in the first field
abbrev number : List ℕ → ℕ
number first = from_le_bytes w32 (take 4 first)

declared : {rule : Padding} (ns first others : List ℕ) → IsTable rule (first ++ others) ns → length first ≡ 8 → number first + 1 ≡ length ns
declared ns first others table size =
    let front : take 4 (first ++ others) ≡ take 4 first = take-append-le 4 first others (omega arith) in
    let spelled : table_field (length ns - 1) ≡ take 4 (first ++ others) = ap (take 4) (sym table.spelled) in
    let some = table.can.some in
    let most = table.can.count in
    let read : from_le_bytes w32 (take 4 first) ≡ length ns - 1 = ap (from_le_bytes w32) (sym front ∙ sym spelled) ∙ from_le_bytes-to_le_bytes_4 (length ns - 1) (omega arith) in
    omega arith

-- at most one table is at a front
pub TableFound-once : {rule other : Padding} (gives : Giving) (raw ns rest ms left : List ℕ)
    → ((raw : List ℕ) (n : ℕ) (bytes rest others left : List ℕ) → gives raw n bytes rest → gives raw n others left
    → (bytes ≡ others) × (rest ≡ left)) → ((raw : List ℕ) (n : ℕ) (bytes rest : List ℕ) → gives raw n bytes rest
    → length bytes ≡ n) → TableFound rule gives ns raw rest → TableFound other gives ms raw left → (ns ≡ ms) × (rest ≡ left)
TableFound-once {rule} gives raw ns rest ms left unique all p q =
    let first = unique raw 8 p.first p.between q.first q.between p.first_given q.first_given in
    let lens : length ns ≡ length ms = sym (declared ns p.first p.others p.table
    (all raw 8 p.first p.between p.first_given)) ∙ ap (λ l. number l + 1) first.0
    ∙ declared ms q.first q.others q.table (all raw 8 q.first q.between q.first_given) in
    let rests = unique q.between (8 * (length ms / 2)) p.others rest q.others left
    (subst (λ k. gives q.between (8 * (k / 2)) p.others rest) lens
    (subst (λ l. gives l (8 * (length ns / 2)) p.others rest) first.1 p.others_given)) q.others_given in
    let encodings : p.first ++ p.others ≡ q.first ++ q.others = ap (λ l. l ++ p.others) first.0 ∙ ap (λ l. q.first ++ l) rests.0 in
    (IsTable-once (q.first ++ q.others) ns ms (subst (λ l. IsTable rule l ns) encodings p.table) q.table, rests.1)
