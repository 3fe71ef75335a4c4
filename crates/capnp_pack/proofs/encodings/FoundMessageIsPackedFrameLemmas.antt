-- The requests of a packed source find a message exactly where a packed frame of it begins. What a writer makes is
-- such a frame, and each message of whole words has one.
use Rattle.std.proofs.Common.{◌≡◌, ℕ, ◌+◌, ◌-◌, ◌*◌, ◌%◌, List, [], ◌∷◌, ◌++◌, length, take, drop, replicate, refl, sym, ap, ◌∙◌, subst, arith, ◌↔◌, append_assoc, length-append}
use Rattle.std.proofs.lemmas.List.{take-append-drop, length-take-le, length-drop, length-replicate}
use Rattle.std.proofs.lemmas.List.Concat.{flat_map-append}
use Rattle.std.proofs.lemmas.List.Folds.{concat-append}
use Rattle.std.specs.List.{concat, flat_map, AllByRecursion}
use Rattle.capnp_frame.specs.Prelude.{IsWholeWords, lengths, table_field, padding_len, zero_padded_table, HasTable, IsTable, MessageFound, AppendsAll}
use Rattle.capnp_frame.specs.declared.serialize.segment_table.Padding.{Padding}
use Rattle.capnp_frame.specs.declared.serialize.segment_table.Padding.TheVariants.{Zero}
use Rattle.capnp_frame.proofs.tables.UniqueTableLengthsLemmas.{length-fields, zero_table}
use Rattle.capnp_frame.proofs.encodings.PlainRequestsTakeFrameLemmas.{zero_padded_is, length-table, length-segments}
use Rattle.capnp_pack.specs.Prelude.{IsGroup, group_encoding, group_words, IsChunk, encoding_of, words_of_groups, Packs, IsPackedFrame, IsPackedEncoding, Unpacks}
use Rattle.capnp_pack.proofs.words.EachElementLemmas.{AllByRecursion-append}
use Rattle.capnp_pack.proofs.packing.WordsPackUniquelyAndUnpackLemmas.{Packs-some, Packs-whole}

-- the three requests of a packed source are the three chunks

frame_from_requests : {rule : Padding} (raw rest : List ℕ) (segments : List (List ℕ)) → MessageFound rule Unpacks segments raw rest → (encoding : List ℕ) × IsPackedFrame rule encoding segments × (raw ≡ encoding ++ rest)
frame_from_requests raw rest segments is_found =
    let first = is_found.table.first_given in
    let others = is_found.table.others_given in
    let all = is_found.given in (
      first.0 ++ others.0 ++ all.0,
      record {
        first = is_found.table.first;
        others = is_found.table.others;
        one_word = first.3;
        table = is_found.table.table;
        whole = is_found.whole;
        first_encoding = first.0;
        others_encoding = others.0;
        segments_encoding = all.0;
        first_packed = first.1;
        others_packed = others.1;
        segments_packed = all.1;
        spelled = refl;
      },
      first.2 ∙ ap (λ l. first.0 ++ l) (others.2 ∙ ap (λ l. others.0 ++ l) all.2)
          ∙ sym (append_assoc first.0 others.0 (all.0 ++ rest)) ∙ sym (append_assoc (first.0 ++ others.0) all.0 rest),
    )

pub MessageFound-from_packed : {rule : Padding} (encoding rest : List ℕ) (segments : List (List ℕ)) → IsPackedFrame rule encoding segments → MessageFound rule Unpacks segments (encoding ++ rest) rest
MessageFound-from_packed encoding rest segments frame =
    let long = length-table (frame.first ++ frame.others) (lengths segments) frame.table in
    let one = frame.one_word in
    let a = frame.first_encoding in
    let b = frame.others_encoding in
    let c = frame.segments_encoding in
    record {
      between = c ++ rest;
      table = record {
        first = frame.first;
        others = frame.others;
        between = b ++ (c ++ rest);
        first_given = (a, frame.first_packed, ap (λ l. l ++ rest) frame.spelled ∙ append_assoc (a ++ b) c rest ∙ append_assoc a b (c ++ rest), one);
        others_given = (b, frame.others_packed, refl, omega (arith, length-append frame.first frame.others));
        table = frame.table;
      };
      given = (c, frame.segments_packed, refl, length-segments segments frame.whole);
      whole = frame.whole;
    }

pub packed_requests : (rule : Padding) (segments : List (List ℕ)) (raw rest : List ℕ) → MessageFound rule Unpacks segments raw rest ↔ ((encoding : List ℕ) × IsPackedFrame rule encoding segments × (raw ≡ encoding ++ rest))
packed_requests rule segments raw rest = (
  frame_from_requests raw rest segments,
  λ (encoding, frame, e). subst (λ l. MessageFound rule Unpacks segments l rest) (sym e) (MessageFound-from_packed encoding rest segments frame),
)

-- what is written is a packed encoding of the message

packed_chunk : (bytes encoding : List ℕ) → Packs bytes encoding → IsChunk encoding bytes
packed_chunk bytes encoding p = record { groups = p.groups; each = p.each; spelled = p.spelled; unpacked = p.unpacked }

IsChunk-join : (s t a b : List ℕ) → IsChunk s a → IsChunk t b → IsChunk (s ++ t) (a ++ b)
IsChunk-join s t a b p q = record {
  groups = p.groups ++ q.groups;
  each = AllByRecursion-append IsGroup p.groups q.groups p.each q.each;
  spelled = ap (λ l. l ++ t) p.spelled ∙ ap (λ l. encoding_of p.groups ++ l) q.spelled ∙ sym (flat_map-append group_encoding p.groups q.groups);
  unpacked = ap (λ l. l ++ b) p.unpacked ∙ ap (λ l. concat (words_of_groups p.groups) ++ l) q.unpacked
      ∙ sym (concat-append (words_of_groups p.groups) (words_of_groups q.groups)) ∙ ap concat (sym (flat_map-append group_words p.groups q.groups));
}

chunks_join : (segments : List (List ℕ)) (encoding : List ℕ) → AppendsAll Packs segments encoding → IsChunk encoding (concat segments) × AllByRecursion IsWholeWords segments
chunks_join [] encoding all = (record { groups = []; each = tt; spelled = all; unpacked = refl }, tt)
chunks_join (s ∷ ss) encoding (first, others, packed, more, e) =
    let rest = chunks_join ss others more in
    (subst (λ l. IsChunk l (s ++ concat ss)) (sym e) (IsChunk-join first others s (concat ss) (packed_chunk s first packed) rest.0), (Packs-whole s first packed, rest.1))

pub packed_encoding_is : (rule : Padding) (encoding : List ℕ) (segments : List (List ℕ)) → HasTable (lengths segments) → IsPackedEncoding encoding segments → IsPackedFrame rule encoding segments
packed_encoding_is rule encoding segments can packed =
    let head = zero_padded_table (lengths segments) in
    let table = zero_padded_is rule (lengths segments) can in
    let long = length-table head (lengths segments) table in
    let whole : take 8 head ++ drop 8 head ≡ head = take-append-drop 8 head in
    let body = chunks_join segments packed.segments_encoding packed.each_packed in
    record {
      first = take 8 head;
      others = drop 8 head;
      one_word = length-take-le 8 head (omega arith);
      table = subst (λ l. IsTable rule l (lengths segments)) (sym whole) table;
      whole = body.1;
      first_encoding = packed.first_encoding;
      others_encoding = packed.others_encoding;
      segments_encoding = packed.segments_encoding;
      first_packed = packed_chunk (take 8 head) packed.first_encoding packed.first_packed;
      others_packed = packed_chunk (drop 8 head) packed.others_encoding packed.others_packed;
      segments_packed = body.0;
      spelled = packed.spelled;
    }

-- by the rule of zero padding its table is the one that is written
pub zero_packed_table : (encoding : List ℕ) (segments : List (List ℕ)) (frame : IsPackedFrame Zero encoding segments)
    → frame.first ++ frame.others ≡ zero_padded_table (lengths segments)
zero_packed_table encoding segments frame = zero_table (frame.first ++ frame.others) (lengths segments) frame.table

-- and there is one

all_packed : (segments : List (List ℕ)) → AllByRecursion IsWholeWords segments → (encoding : List ℕ) × AppendsAll Packs segments encoding
all_packed [] whole = ([], refl)
all_packed (s ∷ ss) whole =
    let first : (encoding : List ℕ) × Packs s encoding = Packs-some s whole.0 in
    let rest : (encoding : List ℕ) × AppendsAll Packs ss encoding = all_packed ss whole.1 in
    (first.0 ++ rest.0, (first.0, rest.0, first.1, rest.1, refl))

length-zero_padded : (ns : List ℕ) → length (zero_padded_table ns) ≡ 4 + 4 * length ns + 4 * ((length ns + 1) % 2)
length-zero_padded ns = omega (
  arith,
  length-append (table_field (length ns - 1) ++ flat_map table_field ns) (replicate (padding_len ns) 0),
  length-append (table_field (length ns - 1)) (flat_map table_field ns),
  length-fields ns,
  length-replicate {A = ℕ} (padding_len ns) 0,
)

pub packed_encoding_some : (segments : List (List ℕ)) → AllByRecursion IsWholeWords segments → (encoding : List ℕ) × IsPackedEncoding encoding segments
packed_encoding_some segments whole =
    let head = zero_padded_table (lengths segments) in
    let long = length-zero_padded (lengths segments) in
    let first : (encoding : List ℕ) × Packs (take 8 head) encoding = Packs-some (take 8 head) (ap (λ k. k % 8) (length-take-le 8 head (omega arith))) in
    let others : (encoding : List ℕ) × Packs (drop 8 head) encoding = Packs-some (drop 8 head) (ap (λ k. k % 8) (length-drop 8 head) ∙ omega arith) in
    let body : (encoding : List ℕ) × AppendsAll Packs segments encoding = all_packed segments whole in (
      first.0 ++ others.0 ++ body.0,
      record { first_encoding = first.0; others_encoding = others.0; segments_encoding = body.0; first_packed = first.1; others_packed = others.1; each_packed = body.1; spelled = refl },
    )
