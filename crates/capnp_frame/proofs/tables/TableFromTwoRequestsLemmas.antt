-- A table from two requests, one for its first word and one for its other words: joined, they are a table, or none
-- where the rule rejects the padding.
use Rattle.std.proofs.Common.{◌≡◌, ℕ, ◌+◌, ◌-◌, ◌*◌, ◌/◌, ◌≤◌, Option, List, ◌++◌, length, take, drop, sym, ap, ◌∙◌, subst, arith, length-append}
use Rattle.std.proofs.lemmas.List.{take-take, take-append-drop, take_all, take_at, drop_at}
use borrow.Rule.Slice.PartMut.{put_mid}
use Rattle.capnp_frame.specs.declared.serialize.segment_table.Padding.{Padding}
use Rattle.capnp_frame.specs.Prelude.{table_size, KeepsPadding, IsTable, Giving, IfKnown, RestFound, TableFound, DeclaresAccepted, declared_lengths, declared_padding, SpellsLengths, DeclaresTable}
use Rattle.capnp_frame.proofs.sources.JoinedRequestPartsLemmas.{IfKnown-join, IfKnown-weaker, length-put_mid, put_mid_front}
use Rattle.capnp_frame.proofs.tables.TableDeclaredByFieldsLemmas.{length-declared, table_is, padding_declared}

-- the first word of a table, and then its other words
pub completed : (word following chunk : List ℕ) → length word ≡ 8 → length chunk ≡ length (word ++ following) - 8 → put_mid 8 (length (word ++ following) - 8) (word ++ following) chunk ≡ word ++ chunk
completed word following chunk long fill =
    let all = word ++ following in
    let after = put_mid 8 (length all - 8) all chunk in
    let there : 8 ≤ length all = omega (arith, length-append word following) in
    let size = length-put_mid 8 all chunk there fill in
    sym (take_all (8 + length chunk) after (omega arith))
    ∙ put_mid_front 8 (length all - 8) (length chunk) all chunk there (omega arith)
    ∙ ap (λ l. l ++ take (length chunk) chunk) (take_at word following 8 long)
    ∙ ap (λ l. word ++ l) (take_all (length chunk) chunk (omega arith))

pub completed_given : (gives : Giving) (word chunk after : List ℕ) (old new : Option (List ℕ)) → length word ≡ 8
    → after ≡ word ++ chunk → IfKnown old new (λ raw rest. gives raw (length chunk) chunk rest)
    → IfKnown old new (λ raw rest. gives raw (length after - 8) (drop 8 after) rest)
completed_given gives word chunk after old new long is =
    let others : drop 8 after ≡ chunk = ap (drop 8) is ∙ drop_at word chunk 8 long in
    let size : length after - 8 ≡ length chunk = omega (arith, ap length is, length-append word chunk) in
    IfKnown-weaker old new (λ raw rest given. subst (λ k. gives raw k (drop 8 after) rest) (sym size) (subst (λ l. gives raw (length chunk) l rest) (sym others) given))

-- the bytes are a table of this number of segments, where its first word declares so
pub tells_complete : (table : List ℕ) (count : ℕ) → DeclaresAccepted (take 8 table) count → length table ≡ table_size count → SpellsLengths table count → DeclaresTable table count
tells_complete table count accepted long spells = record {
  some = accepted.some;
  few = accepted.few;
  counted = accepted.declared ∙ take-take 4 8 table (omega arith);
  lengths = spells;
  room = omega arith;
}

-- the first word and the others are a table
pub whole_table : (rule : Padding) (word table : List ℕ) (count : ℕ) → take 8 table ≡ word → length table ≡ table_size count
    → DeclaresTable table count → KeepsPadding rule (declared_padding count table)
    → IsTable rule (word ++ drop 8 table) (declared_lengths count table)
whole_table rule word table count front long tells kept =
    let ns = declared_lengths count table in
    let parts : table ≡ word ++ drop 8 table = sym (take-append-drop 8 table) ∙ ap (λ l. l ++ drop 8 table) front in
    let whole : IsTable rule table ns = subst (λ l. IsTable rule l ns) (take_all (table_size count) table (omega arith)) (table_is rule table count tells kept) in
    subst (λ l. IsTable rule l ns) parts whole

-- where the rule does not accept its padding they are none
pub rejected_table : (rule : Padding) (word table : List ℕ) (count : ℕ) → take 8 table ≡ word → length table ≡ table_size count
    → (KeepsPadding rule (declared_padding count table) → ⊥) → IsTable rule (word ++ drop 8 table) (declared_lengths count table) → ⊥
rejected_table rule word table count front long rejected is =
    let parts : word ++ drop 8 table ≡ table = ap (λ l. l ++ drop 8 table) (sym front) ∙ take-append-drop 8 table in
    let many = length-declared count table in
    let whole = subst (λ l. IsTable rule l (declared_lengths count table)) (parts ∙ sym (take_all (table_size count) table (omega arith))) is in
    rejected (padding_declared rule table count whole)

-- and its other words are what the second request gave
pub rest_found : (rule : Padding) (gives : Giving) (word table : List ℕ) (count : ℕ) (old new : Option (List ℕ)) → take 8 table ≡ word
    → length table ≡ table_size count → DeclaresTable table count → KeepsPadding rule (declared_padding count table)
    → IfKnown old new (λ raw rest. gives raw (length table - 8) (drop 8 table) rest)
    → IfKnown old new (RestFound rule gives word (declared_lengths count table))
rest_found rule gives word table count old new front long tells kept =
    let ns = declared_lengths count table in
    let many = length-declared count table in
    let size : length table - 8 ≡ 8 * (length ns / 2) = omega arith in
    IfKnown-weaker old new (λ raw rest given. record {
      others = drop 8 table;
      given = subst (λ k. gives raw k (drop 8 table) rest) size given;
      table = whole_table rule word table count front long tells kept;
    })

-- the first word and then the others are a table
pub table_found : (rule : Padding) (gives : Giving) (word ns : List ℕ) (old mid new : Option (List ℕ))
    → IfKnown old mid (λ raw rest. gives raw 8 word rest) → IfKnown mid new (RestFound rule gives word ns)
    → IfKnown old new (TableFound rule gives ns)
table_found rule gives word ns old mid new = IfKnown-join old mid new (λ raw between rest first others. record {
  first = word;
  others = others.others;
  between = between;
  first_given = first;
  others_given = others.given;
  table = others.table;
})
