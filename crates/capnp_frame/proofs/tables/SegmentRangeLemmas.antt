-- Where a segment lies among the parts after a table.
use Rattle.std.proofs.Common.{◌≡◌, ℕ, ◌+◌, ◌-◌, ◌*◌, ◌<◌, ◌≤◌, ◌^◌, zero, suc, Some, List, [], ◌∷◌, length, take, drop, refl, ap, ◌∙◌, subst, arith, add-one}
use Rattle.std.proofs.lemmas.List.{drop-drop}
use Rattle.std.proofs.lemmas.List.Sums.{sum_by-cons}
use Rattle.std.specs.Prelude.{sum, slice_get}
use Rattle.capnp_frame.specs.Prelude.{table_field, table_size, cut, number, declared_lengths, declared_segments, HoldsMessage}
use Rattle.capnp_frame.proofs.tables.TableDeclaredByFieldsLemmas.{number_at, numbers-take, numbers-suc, number-table_field}
use Rattle.capnp_frame.proofs.tables.PartsCutAtRunningSumsLemmas.{sum_push}

pub cut_at : (ns body : List ℕ) (i n : ℕ) → slice_get ns i ≡ Some n → slice_get (cut ns body) i ≡ Some (take (8 * n) (drop (8 * sum (take i ns)) body))
cut_at [] body i n here = cc
cut_at (m ∷ ns) body zero n here = let same : m ≡ n = cc in ap (λ k. Some (take (8 * k) body)) same
cut_at (m ∷ ns) body (suc i) n here =
    let total : sum (take (suc i) (m ∷ ns)) ≡ m + sum (take i ns) = sum_by-cons (λ x. x) m (take i ns) in
    let place : 8 * m + 8 * sum (take i ns) ≡ 8 * sum (take (suc i) (m ∷ ns)) = omega arith in
    cut_at ns (drop (8 * m) body) i n here ∙ ap (λ l. Some (take (8 * n) l)) (drop-drop (8 * sum (take i ns)) (8 * m) body ∙ ap (λ k. drop k body) place)

sum_at_le : (ns : List ℕ) (i n : ℕ) → slice_get ns i ≡ Some n → sum (take i ns) + n ≤ sum ns
sum_at_le [] i n here = cc
sum_at_le (m ∷ ns) zero n here = let same : m ≡ n = cc in omega (arith, sum_by-cons (λ x. x) m ns)
sum_at_le (m ∷ ns) (suc i) n here = omega (arith, sum_at_le ns i n here, sum_by-cons (λ x. x) m (take i ns), sum_by-cons (λ x. x) m ns)

-- where a segment of the message begins and ends
pub record IsPartAt (bytes : List ℕ) (count index start n : ℕ) : Type 0 where
  pub within : start + 8 * n ≤ length bytes
  pub part : slice_get (declared_segments count bytes) index ≡ Some (take (start + 8 * n - start) (drop start bytes))

pub part_is_at : (bytes : List ℕ) (count index start n : ℕ) → HoldsMessage bytes count → index < count
    → start ≡ table_size count + 8 * sum (declared_lengths index bytes) → number (drop (4 * index) (drop 4 bytes)) ≡ n
    → IsPartAt bytes count index start n
part_is_at bytes count index start n holds less begin is =
    let ns = declared_lengths count bytes in
    let here : slice_get ns index ≡ Some n = number_at index count (drop 4 bytes) less ∙ ap Some is in
    let before : sum (take index ns) ≡ sum (declared_lengths index bytes) = ap sum (numbers-take index count (drop 4 bytes) (omega arith)) in
    let most = sum_at_le ns index n here in
    let room = holds.room in
    let place : table_size count + 8 * sum (take index ns) ≡ start = omega arith in
    let long : 8 * n ≡ start + 8 * n - start = omega arith in
    record {
      within = omega arith;
      part = cut_at ns (drop (table_size count) bytes) index n here
          ∙ ap (λ l. Some (take (8 * n) l)) (drop-drop (8 * sum (take index ns)) (table_size count) bytes
          ∙ ap (λ k. drop k bytes) place) ∙ ap (λ k. Some (take k (drop start bytes))) long;
    }

-- one number more
pub sum-declared : (bytes : List ℕ) (index : ℕ) → sum (declared_lengths (index + 1) bytes) ≡ sum (declared_lengths index bytes) + number (drop (4 * (index + 1)) bytes)
sum-declared bytes index =
    let place : 4 + 4 * index ≡ 4 * (index + 1) = omega arith in
    let there : number (drop (4 * index) (drop 4 bytes)) ≡ number (drop (4 * (index + 1)) bytes) = ap number (drop-drop (4 * index) 4 bytes ∙ ap (λ k. drop k bytes) place) in
    ap (λ k. sum (declared_lengths k bytes)) (add-one index) ∙ ap sum (numbers-suc index (drop 4 bytes))
    ∙ sum_push (declared_lengths index bytes) (number (drop (4 * index) (drop 4 bytes)))
    ∙ ap (λ k. sum (declared_lengths index bytes) + k) there

-- where a segment of the message lies, between the sums of the lengths before it and after it
pub record Lies (bytes : List ℕ) (count index first last : ℕ) : Type 0 where
  pub ordered : first ≤ last
  pub within : last ≤ length bytes
  pub part : slice_get (declared_segments count bytes) index ≡ Some (take (last - first) (drop first bytes))

pub lies_between : (bytes : List ℕ) (count index front start end : ℕ) → HoldsMessage bytes count → index < count
    → front ≡ table_size count → start ≡ sum (declared_lengths index bytes) → end ≡ sum (declared_lengths (index + 1) bytes)
    → Lies bytes count index (front + 8 * start) (front + 8 * end)
lies_between bytes count index front start end holds less front_is start_is end_is =
    let n = number (drop (4 * index) (drop 4 bytes)) in
    let place : 4 + 4 * index ≡ 4 * (index + 1) = omega arith in
    let there : n ≡ number (drop (4 * (index + 1)) bytes) = ap number (drop-drop (4 * index) 4 bytes ∙ ap (λ k. drop k bytes) place) in
    let more = sum-declared bytes index in
    let begin : front + 8 * start ≡ table_size count + 8 * sum (declared_lengths index bytes) = omega arith in
    let found = part_is_at bytes count index (front + 8 * start) n holds less begin refl in
    let last : front + 8 * start + 8 * n ≡ front + 8 * end = omega arith in
    record {
      ordered = omega arith;
      within = subst (λ k. k ≤ length bytes) last found.within;
      part = found.part ∙ ap (λ k. Some (take (k - (front + 8 * start)) (drop (front + 8 * start) bytes))) last;
    }

-- a length that is read adds to the sum, which stays below the bytes' length
pub record ReadsOn (bytes : List ℕ) (index n : ℕ) : Type 0 where
  pub total : sum (declared_lengths (index + 1) bytes) ≡ sum (declared_lengths index bytes) + n
  pub within : 8 * sum (declared_lengths (index + 1) bytes) ≤ length bytes

pub reads_on : (bytes : List ℕ) (count index n : ℕ) → HoldsMessage bytes count → index < count → n < 2 ^ 32 → table_field n ≡ take 4 (drop (4 * (index + 1)) bytes) → ReadsOn bytes index n
reads_on bytes count index n holds less fits read =
    let lies = lies_between bytes count index (table_size count) (sum (declared_lengths index bytes)) (sum (declared_lengths (index + 1) bytes)) holds less refl refl refl in
    let within : table_size count + 8 * sum (declared_lengths (index + 1) bytes) ≤ length bytes = lies.within in
    record {
      total = sum-declared bytes index ∙ ap (λ k. sum (declared_lengths index bytes) + k) (number-table_field n (drop (4 * (index + 1)) bytes) fits read);
      within = omega arith;
    }
