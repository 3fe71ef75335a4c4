-- Both forms of slice readers, by fields and by words, fail for the same bytes, if with different kinds. At most
-- one message is at the front of a slice.
use Rattle.std.proofs.Common.{◌≡◌, ℕ, ◌+◌, ◌-◌, ◌*◌, ◌/◌, ◌%◌, ◌<◌, ◌≤◌, ◌^◌, zero, suc, Option, Some, None, ◌⊎◌, inl, inr, ◌↔◌, List, [], ◌∷◌, length, refl, sym, ap, ◌∙◌, subst, arith}
use Rattle.std.specs.Prelude.{sum, slice_get, IsSome}
use Rattle.std.specs.List.{AllByRecursion}
use Rattle.std.proofs.lemmas.Bool.{cases_lt, false≢true}
use Rattle.capnp_frame.specs.declared.error.ErrorKind.{ErrorKind}
use Rattle.capnp_frame.specs.declared.error.ErrorKind.TheVariants.{InvalidNumberOfSegments, MessageTooLarge, MessageEndsPrematurely, NonZeroPadding}
use Rattle.capnp_frame.specs.declared.serialize.segment_table.Padding.{Padding}
use Rattle.capnp_frame.specs.Prelude.{table_size, KeepsPadding, KeepsLimit, Unless, IsOutOfRange, IsTooLarge, HasFrame, number, declared_lengths, declared_padding, FlatForm, by_words, by_fields, empty_kind, cut_kind, count_end, count_of, lengths_end, LengthsError, FlatError}
use Rattle.capnp_frame.proofs.errors.UniqueErrorLineLemmas.{Unless-after, in_range, within_limit}
use Rattle.capnp_frame.proofs.tables.AcceptedTablePaddingLemmas.{padding_cases}
use Rattle.capnp_frame.proofs.encodings.UniqueDivisionIntoEncodingsLemmas.{frames_part}
use Rattle.capnp_frame.proofs.slices.FlatErrorLemmas.{cut_first, count_out, cut_lengths, past_lengths, cut_segments}

-- what every form accepts
record Accepts (rule : Padding) (limit : Option ℕ) (bytes : List ℕ) (count : ℕ) : Type 0 where
  pub counted : number bytes + 1 ≡ count
  pub few : count < 512
  pub keeps : KeepsLimit (declared_lengths count bytes) limit
  pub kept : KeepsPadding rule (declared_padding count bytes)
  pub room : table_size count + 8 * sum (declared_lengths count bytes) ≤ length bytes

first_end_some : (form : FlatForm) → 0 < count_end form
first_end_some (by_words empty) = omega arith
first_end_some by_fields = omega arith

first_end_within : (form : FlatForm) (count : ℕ) → 0 < count → count_end form ≤ lengths_end form count
first_end_within (by_words empty) count some = omega arith
first_end_within by_fields count some = omega arith

lengths_within : (form : FlatForm) (count : ℕ) → lengths_end form count ≤ table_size count
lengths_within (by_words empty) count = omega arith
lengths_within by_fields count = omega arith

count_within : (form : FlatForm) (last : ℕ) → last + 1 < 512 → count_of form last ≡ last + 1
count_within (by_words empty) last few = omega arith
count_within by_fields last few = refl

count_past : (form : FlatForm) (last : ℕ) → 512 ≤ last + 1 → last < 2 ^ 32 → IsOutOfRange (count_of form last)
count_past (by_words empty) last many fits = elim (cases_lt 0 ((last + 1) % 2 ^ 32)) [ inl some ↦ inr (omega arith) | inr none ↦ inl (omega arith) ]
count_past by_fields last many fits = inr many

error_not_accepted : (form : FlatForm) (rule : Padding) (limit : Option ℕ) (kind : ErrorKind) (bytes : List ℕ) (count : ℕ) → FlatError form rule limit kind bytes → Accepts rule limit bytes count → ⊥
error_not_accepted form rule limit kind bytes count errors a =
    let declared : count_of form (number bytes) ≡ count = count_within form (number bytes) (omega (arith, a.counted, a.few)) ∙ a.counted in
    let some : 0 < count = omega (arith, a.counted) in
    let first = first_end_within form count some in
    let lens = lengths_within form count in
    let room = a.room in
    Unless-after (λ none. absurd (omega (arith, ap length none)))
    (Unless-after (λ short. absurd (omega arith))
    (λ x. Unless-after (in_range count some a.few)
    (Unless-after (λ short. absurd (omega arith))
    (Unless-after (within_limit (declared_lengths count bytes) limit a.keeps)
    (Unless-after (λ short. absurd (omega arith)) (Unless-after (λ rejected. rejected a.kept)
    (λ cuts. let short = cuts.0 in absurd (omega arith))))))
    (subst (λ k. Unless (IsOutOfRange k) (kind ≡ InvalidNumberOfSegments k)
    (Unless (length bytes < lengths_end form k) (kind ≡ cut_kind form (length bytes))
    (LengthsError form rule limit kind bytes k (declared_lengths k bytes)))) declared x))) errors

-- the limit is kept or passed
pub limit_cases : (ns : List ℕ) (limit : Option ℕ) → IsTooLarge ns limit ⊎ KeepsLimit ns limit
limit_cases ns None = inr tt
limit_cases ns (Some most) = elim (cases_lt most (sum ns)) [ inl over ↦ inl over | inr keeps ↦ inr keeps ]

abbrev FlatFails : FlatForm → Padding → Option ℕ → List ℕ → Type 0
FlatFails form rule limit bytes = (kind : ErrorKind) × FlatError form rule limit kind bytes

number_fits : (bytes : List ℕ) → AllByRecursion (λ byte. byte < 256) bytes → 4 ≤ length bytes → number bytes < 2 ^ 32
number_fits [] each long = absurd (omega arith)
number_fits (a ∷ []) each long = absurd (omega arith)
number_fits (a ∷ b ∷ []) each long = absurd (omega arith)
number_fits (a ∷ b ∷ c ∷ []) each long = absurd (omega arith)
number_fits (a ∷ b ∷ c ∷ d ∷ bytes) each long =
    let first = each.0 in
    let second = each.1.0 in
    let third = each.1.1.0 in
    let fourth = each.1.1.1.0 in
    omega arith

-- after the limit: the padding and the segments
after_limit : (form : FlatForm) (rule : Padding) (limit : Option ℕ) (bytes : List ℕ) (count : ℕ) → count_end form ≤ length bytes
    → number bytes + 1 ≡ count → count < 512 → lengths_end form count ≤ length bytes
    → KeepsLimit (declared_lengths count bytes) limit → FlatFails form rule limit bytes ⊎ Accepts rule limit bytes count
after_limit form rule limit bytes count first declared few lens keeps =
    let counted : count_of form (number bytes) ≡ count = count_within form (number bytes) (omega arith) ∙ declared in
    let some : 0 < count = omega arith in
    let start = first_end_some form in
    elim (cases_lt (length bytes) (table_size count)) [
      | inl short ↦ inl (
        cut_kind form (length bytes),
        past_lengths form rule limit (cut_kind form (length bytes)) bytes count first start counted some few lens
            (inr (within_limit (declared_lengths count bytes) limit keeps, inl (short, refl))),
      )
      | inr table ↦ elim (padding_cases rule (declared_padding count bytes)) [
        | inr rejected ↦ inl (
          NonZeroPadding,
          past_lengths form rule limit NonZeroPadding bytes count first start counted some few lens
              (inr (within_limit (declared_lengths count bytes) limit keeps, inr (λ short. absurd (omega arith), inl (rejected, refl)))),
        )
        | inl kept ↦ elim (cases_lt (length bytes) (table_size count + 8 * sum (declared_lengths count bytes))) [
          | inl short ↦ inl (
            MessageEndsPrematurely (sum (declared_lengths count bytes))
                ((length bytes - table_size count) / 8),
            past_lengths form rule limit (MessageEndsPrematurely (sum (declared_lengths count bytes))
                ((length bytes - table_size count) / 8)) bytes count first start counted some few lens
                (cut_segments form rule limit bytes count (sum (declared_lengths count bytes)) keeps kept table refl short),
          )
          | inr room ↦ inr (record { counted = declared; few = few; keeps = keeps; kept = kept; room = room })
        ]
      ]
    ]

-- after the number of segments
after_count : (form : FlatForm) (rule : Padding) (limit : Option ℕ) (bytes : List ℕ) (count : ℕ) → count_end form ≤ length bytes
    → number bytes + 1 ≡ count → count < 512 → FlatFails form rule limit bytes ⊎ Accepts rule limit bytes count
after_count form rule limit bytes count first declared few =
    let counted : count_of form (number bytes) ≡ count = count_within form (number bytes) (omega arith) ∙ declared in
    let some : 0 < count = omega arith in
    let start = first_end_some form in
    elim (cases_lt (length bytes) (lengths_end form count)) [
      | inl short ↦ inl (cut_kind form (length bytes), cut_lengths form rule limit bytes count first start counted some few short)
      | inr lens ↦ elim (limit_cases (declared_lengths count bytes) limit) [
        | inl over ↦ inl (
          MessageTooLarge (sum (declared_lengths count bytes)),
          past_lengths form rule limit (MessageTooLarge (sum (declared_lengths count bytes))) bytes count first start counted
              some few lens (inl (over, refl)),
        )
        | inr keeps ↦ after_limit form rule limit bytes count first declared few lens keeps
      ]
    ]

error_or_accepted : (form : FlatForm) (rule : Padding) (limit : Option ℕ) (bytes : List ℕ) → AllByRecursion (λ byte. byte < 256) bytes → FlatFails form rule limit bytes ⊎ Accepts rule limit bytes (number bytes + 1)
error_or_accepted form rule limit [] each = inl (empty_kind form, inl (refl, refl))
error_or_accepted form rule limit (byte ∷ bytes) each =
    let all = byte ∷ bytes in
    let start = first_end_some form in
    let least = first_least form in
    elim (cases_lt (length all) (count_end form)) [
      | inl short ↦ inl (cut_kind form (length all), cut_first form rule limit all (omega arith) short)
      | inr first ↦ elim (cases_lt (number all + 1) 512) [
        | inl few ↦ after_count form rule limit all (number all + 1) first refl few
        | inr many ↦ inl (
          InvalidNumberOfSegments (count_of form (number all)),
          count_out form rule limit all (count_of form (number all)) first start refl
              (count_past form (number all) many (number_fits all each (omega arith))),
        )
      ]
    ]
  where
    first_least : (form : FlatForm) → 4 ≤ count_end form
    first_least (by_words empty) = omega arith
    first_least by_fields = omega arith

pub flat_agree : (form other : FlatForm) (rule : Padding) (limit : Option ℕ) (kind : ErrorKind) (bytes : List ℕ)
    → AllByRecursion (λ byte. byte < 256) bytes → FlatError form rule limit kind bytes → (own : ErrorKind)
    × FlatError other rule limit own bytes
flat_agree form other rule limit kind bytes each errors = elim (error_or_accepted other rule limit bytes each) [
  | inl met ↦ met
  | inr accepts ↦ absurd (error_not_accepted form rule limit kind bytes (number bytes + 1) errors accepts)
]

pub one_at_a_front : (rule also : Padding) (bytes rest left : List ℕ) (segments others : List (List ℕ)) → HasFrame rule bytes segments rest → HasFrame also bytes others left → (segments ≡ others) × (rest ≡ left)
one_at_a_front rule also bytes rest left segments others (encoding, frame, is) (other, so, are) =
    let parts = frames_part encoding other rest left segments others frame so (sym is ∙ are) in
    (parts.1, parts.2)

pub index_below : (segments : List (List ℕ)) (index : ℕ) → IsSome (slice_get segments index) ↔ (index < length segments)
index_below [] index = (λ some. absurd (false≢true some), λ less. absurd (omega arith))
index_below (segment ∷ segments) zero = (λ some. omega arith, λ less. refl)
index_below (segment ∷ segments) (suc index) =
    let inner = index_below segments index in
    (λ some. let less : index < length segments = inner.0 some in omega arith, λ less. inner.1 (omega arith))
