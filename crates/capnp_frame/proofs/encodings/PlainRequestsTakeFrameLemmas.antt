-- Over a plain source the requests that find a message take just a frame of it. A frame of zero padding is the one
-- that is written.
use Rattle.std.proofs.Common.{◌≡◌, ℕ, ◌+◌, ◌-◌, ◌*◌, ◌/◌, List, [], ◌∷◌, ◌++◌, length, take, drop, replicate, refl, sym, ap, ◌∙◌, subst, arith, ◌↔◌, append_assoc, length-append}
use Rattle.std.proofs.lemmas.List.{take-append-drop, length-take-le, length-drop, length-replicate}
use Rattle.std.specs.List.{concat, flat_map, AllByRecursion}
use Rattle.capnp_frame.specs.Prelude.{IsWholeWords, word_count, lengths, size_in_words, table_field, padding_len, zero_padded_table, HasTable, IsTable, IsFrame, frame_bytes, Splits, MessageFound}
use Rattle.capnp_frame.specs.declared.serialize.segment_table.Padding.{Padding}
use Rattle.capnp_frame.specs.declared.serialize.segment_table.Padding.TheVariants.{Any, Zero}
use Rattle.capnp_frame.proofs.tables.UniqueTableLengthsLemmas.{length-fields, any_table, zero_table, zeros_kept}
use Rattle.std.proofs.lemmas.List.Sums.{sum_by-cons}

pub length-table : {rule : Padding} (encoding ns : List ℕ) → IsTable rule encoding ns → length encoding ≡ 8 + 8 * (length ns / 2)
length-table encoding ns table =
    let some = table.can.some in
    let padded = table.padded in
    omega (arith, ap length table.spelled, length-append (table_field (length ns - 1) ++ flat_map table_field ns) table.padding, length-append (table_field (length ns - 1)) (flat_map table_field ns), length-fields ns)

pub length-segments : (segments : List (List ℕ)) → AllByRecursion IsWholeWords segments → length (concat segments) ≡ 8 * size_in_words segments
length-segments [] whole = refl
length-segments (s ∷ ss) whole =
    let here = whole.0 in
    let total : size_in_words (s ∷ ss) ≡ word_count s + size_in_words ss = sum_by-cons (λ x. x) (word_count s) (lengths ss) in
    omega (arith, length-append s (concat ss), length-segments ss whole.1)

pub MessageFound-from_frame : {rule : Padding} (encoding rest : List ℕ) (segments : List (List ℕ)) → IsFrame rule encoding segments → MessageFound rule Splits segments (encoding ++ rest) rest
MessageFound-from_frame {rule} encoding rest segments frame =
    let head = frame.table in
    let long = length-table head (lengths segments) frame.lengths_declared in
    let whole : take 8 head ++ drop 8 head ≡ head = take-append-drop 8 head in
    record {
      between = concat segments ++ rest;
      table = record {
        first = take 8 head;
        others = drop 8 head;
        between = drop 8 head ++ (concat segments ++ rest);
        first_given = (
          ap (λ l. l ++ rest) frame.spelled ∙ append_assoc head (concat segments) rest
              ∙ ap (λ l. l ++ (concat segments ++ rest)) (sym whole)
              ∙ append_assoc (take 8 head) (drop 8 head) (concat segments ++ rest),
          length-take-le 8 head (omega arith),
        );
        others_given = (refl, omega (arith, length-drop 8 head));
        table = subst (λ l. IsTable rule l (lengths segments)) (sym whole) frame.lengths_declared;
      };
      given = (refl, length-segments segments frame.whole);
      whole = frame.whole;
    }

pub frame_from_requests : {rule : Padding} (raw rest : List ℕ) (segments : List (List ℕ)) → MessageFound rule Splits segments raw rest → (encoding : List ℕ) × IsFrame rule encoding segments × (raw ≡ encoding ++ rest)
frame_from_requests raw rest segments sent =
    let head = sent.table.first ++ sent.table.others in (
      head ++ concat segments,
      record { table = head; lengths_declared = sent.table.table; whole = sent.whole; spelled = refl },
      sent.table.first_given.0 ∙ ap (λ l. sent.table.first ++ l) (sent.table.others_given.0 ∙ ap (λ l. sent.table.others ++ l) sent.given.0)
          ∙ sym (append_assoc sent.table.first sent.table.others (concat segments ++ rest)) ∙ sym (append_assoc head (concat segments) rest),
    )

-- the table that is written is one
pub zero_padded_is : (rule : Padding) (ns : List ℕ) → HasTable ns → IsTable rule (zero_padded_table ns) ns
zero_padded_is rule ns can = record {
  can = can;
  padding = replicate (padding_len ns) 0;
  padded = length-replicate (padding_len ns) 0;
  kept = zeros_kept rule (padding_len ns);
  spelled = refl;
}

-- the frame that is written is one
pub frame_bytes_are : (rule : Padding) (segments : List (List ℕ)) → HasTable (lengths segments) → AllByRecursion IsWholeWords segments → IsFrame rule (frame_bytes segments) segments
frame_bytes_are rule segments can whole = record {
  table = zero_padded_table (lengths segments);
  lengths_declared = zero_padded_is rule (lengths segments) can;
  whole = whole;
  spelled = refl;
}

pub plain_requests : (rule : Padding) (segments : List (List ℕ)) (raw rest : List ℕ) → MessageFound rule Splits segments raw rest ↔ ((encoding : List ℕ) × IsFrame rule encoding segments × (raw ≡ encoding ++ rest))
plain_requests rule segments raw rest = (
  frame_from_requests raw rest segments,
  λ (encoding, frame, e). subst (λ l. MessageFound rule Splits segments l rest) (sym e) (MessageFound-from_frame encoding rest segments frame),
)

-- a table of zero padding, as one of any padding
pub zero_table_is : (encoding ns : List ℕ) → IsTable Zero encoding ns ↔ (IsTable Any encoding ns × (encoding ≡ zero_padded_table ns))
zero_table_is encoding ns = (
  λ table. (any_table encoding ns table, zero_table encoding ns table),
  λ (table, is). subst (λ l. IsTable Zero l ns) (sym is) (zero_padded_is Zero ns table.can),
)

-- a frame by a rule is one of any padding
pub any_frame : {rule : Padding} (encoding : List ℕ) (segments : List (List ℕ)) → IsFrame rule encoding segments → IsFrame Any encoding segments
any_frame encoding segments frame = record {
  table = frame.table;
  lengths_declared = any_table frame.table (lengths segments) frame.lengths_declared;
  whole = frame.whole;
  spelled = frame.spelled;
}

-- and one of zero padding is the one that is written
pub zero_frame : (encoding : List ℕ) (segments : List (List ℕ)) → IsFrame Zero encoding segments → encoding ≡ frame_bytes segments
zero_frame encoding segments frame = frame.spelled ∙ ap (λ l. l ++ concat segments) (zero_table frame.table (lengths segments) frame.lengths_declared)
