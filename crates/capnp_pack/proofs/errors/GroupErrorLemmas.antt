-- With which kinds a group fails: its bytes are cut, or it has more words than what is asked for.
use Rattle.std.specs.Prelude.{◌==◌, if◌then◌else◌}
use Rattle.std.proofs.Common.{Bool, true, false, ◌/◌, ◌≡◌, ℕ, zero, suc, ◌+◌, ◌-◌, ◌*◌, ◌%◌, ◌<◌, ◌≤◌, Option, Some, None, IfSome, ◌⊎◌}
use Rattle.std.proofs.Common.{inl, inr, lit<, List, [], ◌∷◌, ◌++◌, length, replicate, refl, sym, ap, ◌∙◌, subst, arith, append_assoc}
use Rattle.std.proofs.Common.{length-append}
use Rattle.std.proofs.lemmas.List.{append-nil, nil_from_length, length-replicate}
use Rattle.std.specs.List.{concat}
use Rattle.capnp_frame.specs.declared.error.ErrorKind.{ErrorKind}
use Rattle.capnp_frame.specs.declared.error.ErrorKind.TheVariants.{PrematureEndOfPackedInput, PackedInputDidNotEndCleanlyOnASegmentBoundary}
use Rattle.capnp_frame.specs.Prelude.{IfKnown, RequestError, RunsShort}
use Rattle.capnp_pack.specs.Prelude.{tagged, zeros, literal, AreZero, zero_word, marked, unmarked, group_size, IsHeadAt, GroupError, PackedError, FirstGroupError, ErrorAfter, zero_words, true_false, bit_cases}
use Rattle.capnp_pack.proofs.unpacking.GroupIsRequestPartLemmas.{concat-zeros}

-- an error after a tag is one of the chunk
pub group_error : (F : Type 0) (n tag : ℕ) (old mid : Option (List ℕ)) (kind : ErrorKind) → IfKnown old mid (λ raw left. raw ≡ tag ∷ left) →
    F ⊎ RequestError (ErrorAfter tag) n mid kind → F ⊎ RequestError FirstGroupError n old kind
group_error F n tag old mid kind at (inl p) = inl p
group_error F n tag None None kind at (inr p) = inr (tag ∷ p.0, p.1, p.2)
group_error F n tag None (Some y) kind at (inr p) = inr (tag ∷ y, n, p)
group_error F n tag (Some x) None kind at (inr p) = absurd at
group_error F n tag (Some x) (Some y) kind at (inr p) = inr (subst (λ l. FirstGroupError l n kind) (sym at) p)

-- the first group's error is the first error
pub meets_first : (raw : List ℕ) (n : ℕ) (kind : ErrorKind) → FirstGroupError raw n kind → PackedError raw n kind
meets_first raw n kind (some, error) =
    let same : n ≡ n - 0 = omega arith in
    record { groups = []; each = tt; left = raw; spelled = refl; fewer = some; error = subst (λ k. GroupError raw k kind) same error }

-- how many bytes a run of zero words has
pub zeros_size : (more : ℕ) → group_size (zeros more) ≡ 8 * suc more
zeros_size more = ap length (concat-zeros (suc more)) ∙ length-replicate (8 * suc more) 0

-- a run that is longer than what is asked for
pub long_run : (more n : ℕ) (left : List ℕ) → more < 256 → 0 < n → n < 8 * (more + 1) → FirstGroupError (0 ∷ more ∷ left) n PackedInputDidNotEndCleanlyOnASegmentBoundary
long_run more n left fits some long =
    (some, inr (inl (record { group = zeros more; following = left; head = record { is = fits; spelled = refl }; long = omega (arith, zeros_size more) }, refl)))

pub group_run_error : (n more : ℕ) (old mid : Option (List ℕ)) → 0 < n → more < 256 → n < 8 * (more + 1) →
    IfKnown old mid (λ raw left. raw ≡ more ∷ left) → RequestError (ErrorAfter 0) n old PackedInputDidNotEndCleanlyOnASegmentBoundary
group_run_error n more None mid some fits long at = (more ∷ [], n, long_run more n [] fits some long)
group_run_error n more (Some x) None some fits long at = absurd at
group_run_error n more (Some x) (Some y) some fits long at = subst (λ l. FirstGroupError (0 ∷ l) n PackedInputDidNotEndCleanlyOnASegmentBoundary) (sym at) (long_run more n y fits some long)

-- a run with no count
pub no_count : (n : ℕ) → 0 < n → FirstGroupError (0 ∷ []) n PrematureEndOfPackedInput
no_count n some = (some, inl (record { group = zeros 0; is = lit< tt; missing = 0 ∷ []; some = lit< tt; spelled = refl }, refl))

pub count_error : (n : ℕ) (old : Option (List ℕ)) → 0 < n → IfSome old (λ raw. raw ≡ []) → RequestError (ErrorAfter 0) n old PrematureEndOfPackedInput
count_error n None some end = ([], n, no_count n some)
count_error n (Some x) some end = subst (λ l. FirstGroupError (0 ∷ l) n PrematureEndOfPackedInput) (sym end) (no_count n some)

-- the errors of a literal group

-- its word or its count is cut
pub literal_cut : (bytes : List ℕ) (n : ℕ) → 0 < n → length bytes < 9 → ErrorAfter 255 bytes n PrematureEndOfPackedInput
literal_cut bytes n some short =
    let zeros_after = replicate (8 - length bytes) 0 in
    let whole : length (bytes ++ zeros_after) ≡ 8 = omega (arith, length-append bytes zeros_after, length-replicate {A = ℕ} (8 - length bytes) 0) in
    let more : 0 < length (zeros_after ++ 0 ∷ []) = omega (arith, length-append zeros_after (0 ∷ [])) in (
      some,
      inl (
        record {
          group = literal (bytes ++ zeros_after) [];
          is = (whole, tt, lit< tt);
          missing = zeros_after ++ 0 ∷ [];
          some = more;
          spelled = ap (λ l. 255 ∷ l) (sym (append_assoc bytes zeros_after (0 ∷ [])));
        },
        refl,
      ),
    )

-- its count is larger than what is asked for, or its run is cut
pub literal_head : (word left : List ℕ) (count : ℕ) → length word ≡ 8 → count < 256 → IsHeadAt (literal word (replicate count zero_word)) (255 ∷ word ++ count ∷ left) left
literal_head word left count whole fits =
    let same : length (replicate count zero_word) ≡ count = length-replicate count zero_word in
    record {
      is = (whole, zero_words count, subst (λ k. k < 256) (sym same) fits);
      spelled = ap (λ l. 255 ∷ l) (ap (λ k. word ++ k ∷ left) (sym same) ∙ sym (append_assoc word (length (replicate count zero_word) ∷ []) left));
    }

pub literal_size : (word : List ℕ) (count : ℕ) → length word ≡ 8 → group_size (literal word (replicate count zero_word)) ≡ 8 * (count + 1)
literal_size word count whole = omega (arith, length-append word (concat (replicate count zero_word)), ap length (concat-zeros count), length-replicate {A = ℕ} (8 * count) 0)

pub literal_long : (word left : List ℕ) (count n : ℕ) → 0 < n → length word ≡ 8 → count < 256 → n < 8 * (count + 1) →
    ErrorAfter 255 (word ++ count ∷ left) n PackedInputDidNotEndCleanlyOnASegmentBoundary
literal_long word left count n some whole fits long = (
  some,
  inr (inl (
    record { group = literal word (replicate count zero_word); following = left; head = literal_head word left count whole fits; long = omega (arith, literal_size word count whole) },
    refl,
  )),
)

pub literal_run_cut : (word left : List ℕ) (count n : ℕ) (kind : ErrorKind) → 0 < n → length word ≡ 8 → count < 256 → 8 * (count + 1) ≤ n →
    RunsShort left (8 * count) kind → ErrorAfter 255 (word ++ count ∷ left) n kind
literal_run_cut word left count n kind some whole fits room short = (
  some,
  inr (inr (
    record {
      group = literal word (replicate count zero_word);
      following = left;
      head = literal_head word left count whole fits;
      fits = omega (arith, literal_size word count whole);
      short = omega (arith, ap length (concat-zeros count), length-replicate {A = ℕ} (8 * count) 0, short.0);
    },
    short.1,
  )),
)

-- the errors of a tagged group

-- a word whose marked bytes begin with these
record Filled (k tag : ℕ) (bytes : List ℕ) : Type 0 where
  word : List ℕ
  missing : List ℕ
  long : length word ≡ k
  clear : AreZero (unmarked tag word)
  spelled : bytes ++ missing ≡ marked tag word

tag_step : (k half : ℕ) (set clear : Bool) → ((set ≡ true) × (clear ≡ false)) ⊎ ((set ≡ false) × (clear ≡ true)) → (bytes : List ℕ) →
    ((bs : List ℕ) → length bs ≤ length (marked half (replicate k 0)) → Filled k half bs) →
    length bytes ≤ length ((if set then 0 ∷ [] else []) ++ marked half (replicate k 0)) → (b : ℕ) × (w : List ℕ) × (m : List ℕ) × (length w ≡ k) ×
    AreZero ((if clear then b ∷ [] else []) ++ unmarked half w) × (bytes ++ m ≡ (if set then b ∷ [] else []) ++ marked half w)
tag_step k half true false which [] inner fits = let r = inner [] (omega arith) in (0, r.word, 0 ∷ r.missing, r.long, r.clear, ap (λ l. 0 ∷ l) r.spelled)
tag_step k half true false which (b ∷ bs) inner fits = let r = inner bs (omega arith) in (b, r.word, r.missing, r.long, r.clear, ap (λ l. b ∷ l) r.spelled)
tag_step k half false true which bytes inner fits = let r = inner bytes fits in (0, r.word, r.missing, r.long, (refl, r.clear), r.spelled)
tag_step k half true true (inl w) bytes inner fits = absurd (true_false w.1)
tag_step k half true true (inr w) bytes inner fits = absurd (true_false w.0)
tag_step k half false false (inl w) bytes inner fits = absurd (true_false (sym w.0))
tag_step k half false false (inr w) bytes inner fits = absurd (true_false (sym w.1))

filled : (k tag : ℕ) (bytes : List ℕ) → length bytes ≤ length (marked tag (replicate k 0)) → Filled k tag bytes
filled zero tag bytes fits = record { word = []; missing = []; long = refl; clear = tt; spelled = append-nil bytes ∙ nil_from_length bytes (omega arith) }
filled (suc k) tag bytes fits =
    let r = tag_step k (tag / 2) (tag % 2 == 1) (tag % 2 == 0) (bit_cases (tag % 2) (omega arith)) bytes (filled k (tag / 2)) fits in
    record { word = r.0 ∷ r.1; missing = r.2; long = ap suc r.3; clear = r.4; spelled = r.5 }

same_marks : (k tag : ℕ) (word : List ℕ) → length word ≡ k → length (marked tag word) ≡ length (marked tag (replicate k 0))
same_marks zero tag [] long = refl
same_marks zero tag (b ∷ w) long = absurd (omega arith)
same_marks (suc k) tag [] long = absurd (omega arith)
same_marks (suc k) tag (b ∷ w) long = mark (tag % 2 == 1) (same_marks k (tag / 2) w (omega arith))
  where
    mark : (set : Bool) → length (marked (tag / 2) w) ≡ length (marked (tag / 2) (replicate k 0)) →
        length ((if set then b ∷ [] else []) ++ marked (tag / 2) w) ≡ length ((if set then 0 ∷ [] else []) ++ marked (tag / 2) (replicate k 0))
    mark true e = ap suc e
    mark false e = e

-- a marked byte is missing
pub tagged_cut : (tag n : ℕ) (bytes : List ℕ) → 0 < n → 0 < tag → tag < 255 → length bytes < length (marked tag zero_word) → ErrorAfter tag bytes n PrematureEndOfPackedInput
tagged_cut tag n bytes some low high short =
    let r = filled 8 tag bytes (omega arith) in
    let marks = same_marks 8 tag r.word r.long in (
      some,
      inl (
        record {
          group = tagged tag r.word;
          is = (low, high, r.long, r.clear);
          missing = r.missing;
          some = omega (arith, marks, ap length r.spelled, length-append bytes r.missing);
          spelled = ap (λ l. tag ∷ l) r.spelled;
        },
        refl,
      ),
    )
