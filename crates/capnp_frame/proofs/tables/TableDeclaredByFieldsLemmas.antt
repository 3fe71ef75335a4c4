-- The numbers in the fields at the front of bytes declare a table. So the bytes are one where the rule accepts
-- their padding, and the other way round.
use Rattle.std.proofs.Common.{◌≡◌, ℕ, ◌+◌, ◌-◌, ◌*◌, ◌%◌, ◌<◌, ◌≤◌, ◌^◌, zero, suc, Some, List, [], ◌∷◌, ◌++◌, length, take, drop, refl, sym}
use Rattle.std.proofs.Common.{ap, ◌∙◌, subst, arith, append_assoc, length-append, add-one}
use Rattle.std.proofs.lemmas.List.{take-take, take-append-drop, length-drop, length-take-le, take_at, drop-drop}
use Rattle.std.proofs.lemmas.List.Concat.{flat_map-append}
use Rattle.std.proofs.lemmas.Nat.{from_le_bytes-to_le_bytes_4}
use lib.Seq.{take-add}
use Rattle.std.specs.Prelude.{sum, slice_get}
use Rattle.std.specs.List.{flat_map, AllByRecursion}
use Rattle.std.specs.Int.{w32, from_le_bytes}
use Rattle.capnp_frame.specs.declared.serialize.segment_table.Padding.{Padding}
use Rattle.capnp_frame.specs.Prelude.{table_field, FitsField, table_size, padding_len, KeepsPadding, IsTable, number, numbers, declared_lengths, declared_padding, SpellsLengths, DeclaresTable}
use Rattle.capnp_frame.proofs.tables.PartsCutAtRunningSumsLemmas.{sum_push}
use Rattle.capnp_frame.proofs.tables.UniqueTableLengthsLemmas.{length-fields, AllByRecursion-push, padding_at}
use Rattle.capnp_frame.proofs.encodings.PlainRequestsTakeFrameLemmas.{length-table}

-- numbers in fields

pub number-table_field : (n : ℕ) (bytes : List ℕ) → n < 2 ^ 32 → table_field n ≡ take 4 bytes → number bytes ≡ n
number-table_field n bytes fits read = ap (from_le_bytes w32) (sym read) ∙ from_le_bytes-to_le_bytes_4 n fits

pub numbers-suc : (count : ℕ) (bytes : List ℕ) → numbers (suc count) bytes ≡ numbers count bytes ++ number (drop (4 * count) bytes) ∷ []
numbers-suc zero bytes = refl
numbers-suc (suc count) bytes =
    let further : 4 + 4 * count ≡ 4 * suc count = omega arith in
    ap (λ l. number bytes ∷ l) (numbers-suc count (drop 4 bytes))
    ∙ ap (λ l. number bytes ∷ (numbers count (drop 4 bytes) ++ number l ∷ [])) (drop-drop (4 * count) 4 bytes ∙ ap (λ k. drop k bytes) further)

pub length-numbers : (count : ℕ) (bytes : List ℕ) → length (numbers count bytes) ≡ count
length-numbers zero bytes = refl
length-numbers (suc count) bytes = ap suc (length-numbers count (drop 4 bytes))

-- the first numbers of more
pub numbers-take : (index count : ℕ) (bytes : List ℕ) → index ≤ count → take index (numbers count bytes) ≡ numbers index bytes
numbers-take zero count bytes less = refl
numbers-take (suc index) zero bytes less = absurd (omega arith)
numbers-take (suc index) (suc count) bytes less = ap (λ l. number bytes ∷ l) (numbers-take index count (drop 4 bytes) (omega arith))

pub number_at : (index count : ℕ) (bytes : List ℕ) → index < count → slice_get (numbers count bytes) index ≡ Some (number (drop (4 * index) bytes))
number_at index zero bytes less = absurd (omega arith)
number_at zero (suc count) bytes less = refl
number_at (suc index) (suc count) bytes less =
    let further : 4 + 4 * index ≡ 4 * suc index = omega arith in
    number_at index count (drop 4 bytes) (omega arith) ∙ ap (λ l. Some (number l)) (drop-drop (4 * index) 4 bytes ∙ ap (λ k. drop k bytes) further)

-- the numbers in the fields of some numbers are these numbers
numbers_declared : (ns rest : List ℕ) → AllByRecursion FitsField ns → numbers (length ns) (flat_map table_field ns ++ rest) ≡ ns
numbers_declared [] rest fits = refl
numbers_declared (n ∷ ns) rest fits =
    ap (λ k. k ∷ numbers (length ns) (flat_map table_field ns ++ rest)) (from_le_bytes-to_le_bytes_4 n fits.0)
    ∙ ap (λ l. n ∷ l) (numbers_declared ns rest fits.1)

-- a length more
pub record TellsMore (bytes : List ℕ) (index n : ℕ) : Type 0 where
  pub lengths : SpellsLengths bytes (index + 1)
  pub next : declared_lengths (index + 1) bytes ≡ declared_lengths index bytes ++ n ∷ []
  pub total : sum (declared_lengths (index + 1) bytes) ≡ sum (declared_lengths index bytes) + n

pub tells_more : (bytes : List ℕ) (index n : ℕ) → n < 2 ^ 32 → table_field n ≡ take 4 (drop (4 * (index + 1)) bytes) → SpellsLengths bytes index → TellsMore bytes index n
tells_more bytes index n fits read before =
    let place : 4 + 4 * index ≡ 4 * (index + 1) = omega arith in
    let there : drop (4 * index) (drop 4 bytes) ≡ drop (4 * (index + 1)) bytes = drop-drop (4 * index) 4 bytes ∙ ap (λ k. drop k bytes) place in
    let here : number (drop (4 * index) (drop 4 bytes)) ≡ n = ap number there ∙ number-table_field n (drop (4 * (index + 1)) bytes) fits read in
    let next : declared_lengths (index + 1) bytes ≡ declared_lengths index bytes ++ n ∷ [] = ap (λ k. numbers k (drop 4 bytes))
    (add-one index) ∙ numbers-suc index (drop 4 bytes) ∙ ap (λ k. declared_lengths index bytes ++ k ∷ []) here in
    let more : 4 * index + 4 ≡ 4 * (index + 1) = omega arith in
    record {
      lengths = record {
        each = subst (AllByRecursion FitsField) (sym next) (AllByRecursion-push FitsField (declared_lengths index bytes) n before.each fits);
        spelled = ap (flat_map table_field) next ∙ flat_map-append table_field (declared_lengths index bytes) (n ∷ [])
            ∙ ap (λ l. l ++ table_field n) before.spelled ∙ ap (λ l. take (4 * index) (drop 4 bytes) ++ l)
            (read ∙ ap (take 4) (sym there)) ∙ sym (take-add (4 * index) 4 (drop 4 bytes))
            ∙ ap (λ k. take k (drop 4 bytes)) more;
      };
      next = next;
      total = ap sum next ∙ sum_push (declared_lengths index bytes) n;
    }

-- tables

pub length-declared : (count : ℕ) (bytes : List ℕ) → length (declared_lengths count bytes) ≡ count
length-declared count bytes = length-numbers count (drop 4 bytes)

-- the bytes of the table are one
pub table_is : (rule : Padding) (bytes : List ℕ) (count : ℕ) → DeclaresTable bytes count → KeepsPadding rule (declared_padding count bytes) → IsTable rule (take (table_size count) bytes) (declared_lengths count bytes)
table_is rule bytes count tells kept =
    let ns = declared_lengths count bytes in
    let len = length-declared count bytes in
    let some = tells.some in
    let few = tells.few in
    let room = tells.room in
    let table = take (table_size count) bytes in
    let fields : take (4 * (count + 1)) table ≡ take (4 * (count + 1)) bytes = take-take (4 * (count + 1)) (table_size count) bytes (omega arith) in
    let place : 4 * (count + 1) ≡ 4 + 4 * count = omega arith in
    let front : take (4 + 4 * count) bytes ≡ table_field (length ns - 1) ++ flat_map table_field ns = take-add 4 (4 * count) bytes
    ∙ ap (λ l. l ++ take (4 * count) (drop 4 bytes)) (sym tells.counted)
    ∙ ap (λ l. table_field (count - 1) ++ l) (sym tells.lengths.spelled)
    ∙ ap (λ k. table_field (k - 1) ++ flat_map table_field ns) (sym len) in
    let padded : length (declared_padding count bytes) ≡ padding_len ns = length-drop (4 * (count + 1)) table ∙ ap (λ k. k - 4 * (count + 1)) (length-take-le (table_size count) bytes room) ∙ padding_is count (length ns) (sym len) in
    record {
      can = record { some = omega arith; count = omega arith; each = tells.lengths.each };
      padding = declared_padding count bytes;
      padded = padded;
      kept = kept;
      spelled = sym (take-append-drop (4 * (count + 1)) table) ∙ ap (λ l. l ++ declared_padding count bytes) (fields ∙ ap (λ k. take k bytes) place ∙ front);
    }
  where
    padding_is : (count many : ℕ) → count ≡ many → table_size count - 4 * (count + 1) ≡ 4 * ((many + 1) % 2)
    padding_is count many same = omega arith

-- and where they are one, the rule accepts its padding
pub padding_declared : (rule : Padding) (bytes : List ℕ) (count : ℕ) → IsTable rule (take (table_size count) bytes) (declared_lengths count bytes) → KeepsPadding rule (declared_padding count bytes)
padding_declared rule bytes count table =
    subst (KeepsPadding rule) (sym (padding_at (take (table_size count) bytes) (declared_lengths count bytes) count table (sym (length-declared count bytes)))) table.kept

-- the fields of a table at the front declare its lengths
pub record Declared (rule : Padding) (bytes ns : List ℕ) : Type 0 where
  pub tells : DeclaresTable bytes (length ns)
  pub lengths : declared_lengths (length ns) bytes ≡ ns
  pub padding : KeepsPadding rule (declared_padding (length ns) bytes)
  pub count : number bytes + 1 ≡ length ns

pub declared_from_table : {rule : Padding} (table rest ns : List ℕ) → IsTable rule table ns → length ns < 512 → Declared rule (table ++ rest) ns
declared_from_table {rule} table rest ns is few =
    let count = length ns in
    let some = is.can.some in
    let following = flat_map table_field ns ++ (is.padding ++ rest) in
    let bytes_are : table ++ rest ≡ table_field (count - 1) ++ following = ap (λ l. l ++ rest) is.spelled
    ∙ append_assoc (table_field (count - 1) ++ flat_map table_field ns) is.padding rest
    ∙ append_assoc (table_field (count - 1)) (flat_map table_field ns) (is.padding ++ rest) in
    let first : table_field (count - 1) ≡ take 4 (table ++ rest) = ap (take 4) (sym bytes_are) in
    let others : drop 4 (table ++ rest) ≡ following = ap (drop 4) bytes_are in
    let declared : declared_lengths count (table ++ rest) ≡ ns = ap (numbers count) others ∙ numbers_declared ns (is.padding ++ rest) is.can.each in
    let number_is = number-table_field (count - 1) (table ++ rest) (omega arith) first in
    record {
      tells = record {
        some = some;
        few = few;
        counted = first;
        lengths = record {
          each = subst (AllByRecursion FitsField) (sym declared) is.can.each;
          spelled = ap (flat_map table_field) declared ∙ sym (take_at (flat_map table_field ns) (is.padding ++ rest) (4 * count) (length-fields ns)) ∙ ap (take (4 * count)) (sym others);
        };
        room = omega (arith, length-table table ns is, length-append table rest);
      };
      lengths = declared;
      padding = subst (KeepsPadding rule) (sym (ap (drop (4 * (count + 1))) (take_at table rest (table_size count) (omega (arith, length-table table ns is))) ∙ padding_at table ns count is refl)) is.kept;
      count = omega arith;
    }
