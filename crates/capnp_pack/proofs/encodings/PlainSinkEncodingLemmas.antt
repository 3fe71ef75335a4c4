-- A plain sink to which a packer hands on gets the packed encoding of each chunk, and of a message.
use Rattle.std.proofs.Common.{◌≡◌, ℕ, List, [], ◌∷◌, ◌++◌, refl, sym, ap, ◌∙◌, subst, ◌↔◌, inl, inr, ◌≤◌, length, drop, arith, length-drop, append_assoc}
use Rattle.std.proofs.lemmas.Bool.{cases_lt}
use Rattle.std.proofs.lemmas.List.{append-nil, nil_from_length}
use Rattle.capnp_frame.specs.Prelude.{lengths, zero_padded_table, AppendsAll, AppendsSame, chunks}
use Rattle.capnp_frame.proofs.sinks.TableFilledFieldByFieldLemmas.{parts_one, parts_two}
use Rattle.capnp_pack.specs.Prelude.{Packs, IsPackedEncoding, table_first, table_others, AppendsPacked}
use Rattle.capnp_frame.proofs.encodings.UniqueDivisionIntoEncodingsLemmas.{chunks_joined}
use Rattle.capnp_pack.proofs.packing.WordsPackUniquelyAndUnpackLemmas.{Packs-once}

-- over a plain sink the parts are joined
pub packed_over_plain : (chunk encoding : List ℕ) → AppendsPacked AppendsSame chunk encoding ↔ Packs chunk encoding
packed_over_plain chunk encoding = (
  λ (parts, packed, all). subst (Packs chunk) (sym ((chunks_joined parts encoding).0 all)) packed,
  λ packed. (encoding ∷ [], subst (Packs chunk) (sym (append-nil encoding)) packed, (encoding, [], refl, refl, sym (append-nil encoding))),
)

pub each_packed : (chunks : List (List ℕ)) (encoding : List ℕ) → AppendsAll (AppendsPacked AppendsSame) chunks encoding ↔ AppendsAll Packs chunks encoding
each_packed chunks encoding = (there chunks encoding, back chunks encoding)
  where
    there : (chunks : List (List ℕ)) (encoding : List ℕ) → AppendsAll (AppendsPacked AppendsSame) chunks encoding → AppendsAll Packs chunks encoding
    there [] encoding all = all
    there (p ∷ ps) encoding (first, others, packed, more, e) = (first, others, (packed_over_plain p first).0 packed, there ps others more, e)

    back : (chunks : List (List ℕ)) (encoding : List ℕ) → AppendsAll Packs chunks encoding → AppendsAll (AppendsPacked AppendsSame) chunks encoding
    back [] encoding all = all
    back (p ∷ ps) encoding (first, others, packed, more, e) = (first, others, (packed_over_plain p first).1 packed, back ps others more, e)

pub packed_message : (segments : List (List ℕ)) (encoding : List ℕ) → AppendsAll (AppendsPacked AppendsSame) (table_first segments ∷ table_others segments ∷ segments) encoding ↔ IsPackedEncoding encoding segments
packed_message segments encoding = (
  λ all. there ((each_packed (table_first segments ∷ table_others segments ∷ segments) encoding).0 all),
  λ packed. (each_packed (table_first segments ∷ table_others segments ∷ segments) encoding).1 (back packed),
)
  where
    there : AppendsAll Packs (table_first segments ∷ table_others segments ∷ segments) encoding → IsPackedEncoding encoding segments
    there (a, rest, first, (b, c, others, each, following), e) = record {
      first_encoding = a;
      others_encoding = b;
      segments_encoding = c;
      first_packed = first;
      others_packed = others;
      each_packed = each;
      spelled = e ∙ ap (λ l. a ++ l) following ∙ sym (append_assoc a b c);
    }

    back : IsPackedEncoding encoding segments → AppendsAll Packs (table_first segments ∷ table_others segments ∷ segments) encoding
    back p = (
      p.first_encoding,
      p.others_encoding ++ p.segments_encoding,
      p.first_packed,
      (p.others_encoding, p.segments_encoding, p.others_packed, p.each_packed, refl),
      p.spelled ∙ append_assoc p.first_encoding p.others_encoding p.segments_encoding,
    )

packs_nothing : Packs [] []
packs_nothing = record { groups = []; each = tt; longest = tt; spelled = refl; unpacked = refl }

packed_short_message : (segments : List (List ℕ)) (encoding : List ℕ) → table_others segments ≡ [] →
    AppendsAll (AppendsPacked AppendsSame) (table_first segments ∷ segments) encoding ↔ IsPackedEncoding encoding segments
packed_short_message segments encoding none = (
  λ all. there ((each_packed (table_first segments ∷ segments) encoding).0 all),
  λ packed. (each_packed (table_first segments ∷ segments) encoding).1 (back packed),
)
  where
    there : AppendsAll Packs (table_first segments ∷ segments) encoding → IsPackedEncoding encoding segments
    there (a, c, first, each, e) = record {
      first_encoding = a;
      others_encoding = [];
      segments_encoding = c;
      first_packed = first;
      others_packed = subst (λ l. Packs l []) (sym none) packs_nothing;
      each_packed = each;
      spelled = e ∙ ap (λ l. l ++ c) (sym (append-nil a));
    }

    back : IsPackedEncoding encoding segments → AppendsAll Packs (table_first segments ∷ segments) encoding
    back p =
        let gone : p.others_encoding ≡ [] = Packs-once [] p.others_encoding [] (subst (λ l. Packs l p.others_encoding) none p.others_packed) packs_nothing in
        (p.first_encoding, p.segments_encoding, p.first_packed, p.each_packed, p.spelled ∙ ap (λ l. (p.first_encoding ++ l) ++ p.segments_encoding) gone ∙ ap (λ l. l ++ p.segments_encoding) (append-nil p.first_encoding))

-- the chunks that a writer hands on are of the one form or of the other
pub packed_chunks_are_encoding : (segments : List (List ℕ)) (encoding : List ℕ) → AppendsAll (AppendsPacked AppendsSame) (chunks segments) encoding ↔ IsPackedEncoding encoding segments
packed_chunks_are_encoding segments encoding = elim (cases_lt 8 (length table)) [
  | inl more ↦ reported (sym (parts_two table more)) (packed_message segments encoding)
  | inr few ↦ reported (sym (parts_one table few)) (packed_short_message segments encoding (none few))
]
  where
    table : List ℕ
    table = zero_padded_table (lengths segments)

    reported : {front tail : List (List ℕ)} → front ≡ tail →
        AppendsAll (AppendsPacked AppendsSame) (front ++ segments) encoding ↔ IsPackedEncoding encoding segments →
        AppendsAll (AppendsPacked AppendsSame) (tail ++ segments) encoding ↔ IsPackedEncoding encoding segments
    reported same p = subst (λ front. AppendsAll (AppendsPacked AppendsSame) (front ++ segments) encoding ↔ IsPackedEncoding encoding segments) same p

    none : length table ≤ 8 → drop 8 table ≡ []
    none few = nil_from_length (drop 8 table) (omega (arith, length-drop 8 table))
