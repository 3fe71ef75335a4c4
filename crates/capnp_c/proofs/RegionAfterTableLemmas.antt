-- The segment of a region comes after its table: what is written to one leaves the other.
use Rattle.std.proofs.Common.{◌≡◌, ℕ, ◌+◌, ◌-◌, ◌/◌, ◌%◌, ◌^◌, ◌<◌, ◌≤◌, List, [], ◌∷◌, ◌++◌, length, take, drop, Some, refl, sym, ◌∙◌, ap, subst, arith, length-append, length-take, length-drop, append_assoc, drop-drop}
use Rattle.std.specs.Prelude.{replicate}
use Rattle.std.proofs.Math.Seq.{take-append_seam, drop-append_seam, take-add}
use Rattle.std.proofs.lemmas.List.{append-nil, drop_all}
use Rattle.capnp_frame.specs.declared.serialize.segment_table.Padding.TheVariants.{Zero}
use Rattle.capnp_frame.specs.Prelude.{frame_bytes, zero_padded_table, table_field, IsFrame}
use Rattle.capnp_frame.proofs.encodings.PlainRequestsTakeFrameLemmas.{frame_bytes_are}
use Rattle.capnp_orphans.specs.Regions.{IsUsed, SetsRootInRegion}
use Rattle.capnp_c.specs.declared.building.builder.LinsjoarBuilder.{LinsjoarBuilder}
use Rattle.capnp_c.specs.Building.{IsBuilder, Begins, SetsRoot, Finishes}

-- a region's last part is replaced
pub after_table : (region last : List ℕ) → 8 ≤ length region → drop 8 (take 8 region ++ (last ++ drop (length region - 8) (drop 8 region))) ≡ last
after_table region last room =
    let none : drop (length region - 8) (drop 8 region) ≡ [] = drop_all (length region - 8) (drop 8 region) (omega (arith, length-drop 8 region)) in
    let front : length (take 8 region) ≡ 8 = omega (arith, length-take 8 region, room) in
    ap (λ (l : List ℕ). drop 8 (take 8 region ++ (last ++ l))) none
    ∙ ap (λ (l : List ℕ). drop 8 (take 8 region ++ l)) (append-nil last)
    ∙ ap (λ (n : ℕ). drop n (take 8 region ++ last)) (sym front)
    ∙ drop-append_seam (take 8 region) last

-- the table before it stays
pub table_stays : (region last : List ℕ) → 8 ≤ length region → take 8 (take 8 region ++ (last ++ drop (length region - 8) (drop 8 region))) ≡ take 8 region
table_stays region last room =
    let rest : List ℕ = last ++ drop (length region - 8) (drop 8 region) in
    let front : length (take 8 region) ≡ 8 = omega (arith, length-take 8 region, room) in
    ap (λ (n : ℕ). take n (take 8 region ++ rest)) (sym front) ∙ take-append_seam (take 8 region) rest

-- and the region is as long as before
pub whole_after_table : (region last : List ℕ) → 8 ≤ length region → length last ≡ length region - 8 → length (take 8 region ++ (last ++ drop (length region - 8) (drop 8 region))) ≡ length region
whole_after_table region last room long =
    let rest : List ℕ = drop (length region - 8) (drop 8 region) in
    omega (arith, length-append (take 8 region) (last ++ drop (length region - 8) (drop 8 region)), length-append last (drop (length region - 8) (drop 8 region)), length-take 8 region, length-drop 8 region, length-drop (length region - 8) (drop 8 region), long, room)

-- the segment of the root alone
pub begun : (before after : List ℕ) → 16 ≤ length before → length after ≡ length before → take 8 (drop 8 after) ≡ replicate 8 0 → IsUsed (drop 8 after) 8 → Begins (record { used = 16 }) before after 0
begun before after room long zero used =
    let size : length (drop 8 after) ≡ length before - 8 = omega (arith, length-drop 8 after, long) in
    record {
      builds = λ none. (omega arith, used);
      empty = λ none. ap (λ (l : List ℕ). record { bytes = l; most = Some (length (drop 8 after)); capacity = length (drop 8 after) }) zero
          ∙ ap (λ (n : ℕ). record { bytes = replicate 8 0; most = Some n; capacity = n }) size;
      accepted = λ there. refl;
      short = λ less. absurd (omega (arith, less, room));
      len = long;
      stays = λ some. absurd (omega (arith, some));
    }

pub not_begun : (region : List ℕ) → length region < 16 → Begins (record { used = 0 }) region region 2
not_begun region less = record {
  builds = λ zero. absurd (omega (arith, zero));
  empty = λ zero. absurd (omega (arith, zero));
  accepted = λ room. absurd (omega (arith, room, less));
  short = λ there. refl;
  len = refl;
  stays = λ some. (refl, refl);
}

-- the root of the segment is set
pub root_set : (builder : LinsjoarBuilder) (before after : List ℕ) (orphan : ℕ) → IsBuilder builder before → SetsRootInRegion orphan (builder.used - 8) (drop 8 before) (drop 8 after)
    → take 8 after ≡ take 8 before → length after ≡ length before → SetsRoot builder before after orphan 0
root_set builder before after orphan is sets table long = record {
  no_builder = λ other. absurd (other is);
  accepted = λ there. refl;
  root_is = λ zero. ((is.0, sets.continued), sets.root_is);
  table = table;
  len = long;
  stays = λ some. absurd (omega (arith, some));
}

pub no_builder_sets : (builder : LinsjoarBuilder) (region : List ℕ) (orphan : ℕ) → (IsBuilder builder region → ⊥) → SetsRoot builder region region orphan 27
no_builder_sets builder region orphan denied = record {
  no_builder = λ other. refl;
  accepted = λ is. absurd (denied is);
  root_is = λ zero. absurd (omega (arith, zero));
  table = refl;
  len = refl;
  stays = λ some. refl;
}

-- one segment with its table before it
one_segment_frame : (segment : List ℕ) → length segment % 8 ≡ 0 → length segment < 2 ^ 32 → IsFrame Zero (frame_bytes (segment ∷ [])) (segment ∷ [])
one_segment_frame segment whole few =
    frame_bytes_are Zero (segment ∷ []) (record { some = omega arith; count = omega arith; each = (omega (arith, few), tt) }) (whole, tt)

-- the table before the segment makes its framed encoding
pub framed : (builder : LinsjoarBuilder) (before after : List ℕ) (words : ℕ) → IsBuilder builder before → words ≡ (builder.used - 8) / 8 → take 8 after ≡ zero_padded_table (words ∷ [])
    → drop 8 after ≡ drop 8 before → length after ≡ length before → Finishes builder before after builder.used 0
framed builder before after words is words_is table rest long =
    let segment : List ℕ = take (builder.used - 8) (drop 8 before) in
    let segment_long : length (take (builder.used - 8) (drop 8 before)) ≡ builder.used - 8 = omega (arith, length-take (builder.used - 8) (drop 8 before), is.1.within) in
    let split : builder.used ≡ 8 + (builder.used - 8) = omega (arith, is.0) in
    let size : words ≡ length (take (builder.used - 8) (drop 8 before)) / 8 = words_is ∙ ap (λ (n : ℕ). n / 8) (sym segment_long) in
    let whole : length (take (builder.used - 8) (drop 8 before)) % 8 ≡ 0 = ap (λ (n : ℕ). n % 8) segment_long ∙ is.1.whole in
    let few : length (take (builder.used - 8) (drop 8 before)) < 2 ^ 32 = omega (arith, segment_long, is.1.few) in
    let bytes_are : take builder.used after ≡ frame_bytes (take (builder.used - 8) (drop 8 before) ∷ []) =
    ap (λ (n : ℕ). take n after) split ∙ take-add 8 (builder.used - 8) after
    ∙ ap (λ (l : List ℕ). l ++ take (builder.used - 8) (drop 8 after)) table
    ∙ ap (λ (l : List ℕ). zero_padded_table (words ∷ []) ++ take (builder.used - 8) l) rest
    ∙ ap (λ (n : ℕ). zero_padded_table (n ∷ []) ++ segment) size
    ∙ ap (λ (l : List ℕ). zero_padded_table (length (take (builder.used - 8) (drop 8 before)) / 8 ∷ []) ++ l) (sym (append-nil segment)) in
    record {
      no_builder = λ other. absurd (other is);
      accepted = λ there. refl;
      framed = λ none. subst (λ (l : List ℕ). IsFrame Zero l (take (builder.used - 8) (drop 8 before) ∷ [])) (sym bytes_are) (one_segment_frame segment whole few);
      message_is = λ none. refl;
      kept = rest;
      len = long;
      stays = λ some. absurd (omega (arith, some));
    }

pub no_builder_finishes : (builder : LinsjoarBuilder) (region : List ℕ) → (IsBuilder builder region → ⊥) → Finishes builder region region 0 27
no_builder_finishes builder region denied = record {
  no_builder = λ other. refl;
  accepted = λ is. absurd (denied is);
  framed = λ zero. absurd (omega (arith, zero));
  message_is = λ zero. absurd (omega (arith, zero));
  kept = refl;
  len = refl;
  stays = λ some. (refl, refl);
}

-- zeros are put into the first four bytes, and a length into the next ones
abbrev pub filled : List ℕ → List ℕ → List ℕ → List ℕ
filled region zeros field = take 4 (zeros ++ drop 4 region) ++ (field ++ drop 4 (drop 4 (zeros ++ drop 4 region)))

filled_is : (region zeros field : List ℕ) → length zeros ≡ 4 → filled region zeros field ≡ (zeros ++ field) ++ drop 8 region
filled_is region zeros field four =
    let front : take 4 (zeros ++ drop 4 region) ≡ zeros = ap (λ (n : ℕ). take n (zeros ++ drop 4 region)) (sym four) ∙ take-append_seam zeros (drop 4 region) in
    let back : drop 4 (zeros ++ drop 4 region) ≡ drop 4 region = ap (λ (n : ℕ). drop n (zeros ++ drop 4 region)) (sym four) ∙ drop-append_seam zeros (drop 4 region) in
    ap (λ (l : List ℕ). l ++ (field ++ drop 4 (drop 4 (zeros ++ drop 4 region)))) front
    ∙ ap (λ (l : List ℕ). zeros ++ (field ++ drop 4 l)) back
    ∙ ap (λ (l : List ℕ). zeros ++ (field ++ l)) (drop-drop 4 4 region)
    ∙ sym (append_assoc zeros field (drop 8 region))

one_length : (words : ℕ) → zero_padded_table (words ∷ []) ≡ replicate 4 0 ++ ((table_field words ++ []) ++ [])
one_length words = refl

pub table_put : (region zeros field : List ℕ) (words k : ℕ) → zeros ≡ replicate k 0 → k ≡ 4 → field ≡ table_field words
    → (take 8 (filled region zeros field) ≡ zero_padded_table (words ∷ [])) × (drop 8 (filled region zeros field) ≡ drop 8 region)
table_put region zeros field words k zero four field_is =
    let zeros_are : zeros ≡ replicate 4 0 = zero ∙ ap (λ (n : ℕ). replicate n 0) four in
    let long : length zeros ≡ 4 = ap (λ (l : List ℕ). length l) zeros_are in
    let field_long : length field ≡ 4 = ap (λ (l : List ℕ). length l) field_is in
    let all = filled_is region zeros field long in
    let both : length (zeros ++ field) ≡ 8 = omega (arith, length-append zeros field, long, field_long) in
    let table : zeros ++ field ≡ zero_padded_table (words ∷ []) =
    ap (λ (l : List ℕ). l ++ field) zeros_are ∙ ap (λ (l : List ℕ). replicate 4 0 ++ l) field_is
    ∙ ap (λ (l : List ℕ). replicate 4 0 ++ l) (sym (append-nil (table_field words ++ []) ∙ append-nil (table_field words))) ∙ sym (one_length words) in (
      ap (λ (l : List ℕ). take 8 l) all ∙ ap (λ (n : ℕ). take n ((zeros ++ field) ++ drop 8 region)) (sym both) ∙ take-append_seam (zeros ++ field) (drop 8 region) ∙ table,
      ap (λ (l : List ℕ). drop 8 l) all ∙ ap (λ (n : ℕ). drop n ((zeros ++ field) ++ drop 8 region)) (sym both) ∙ drop-append_seam (zeros ++ field) (drop 8 region),
    )
