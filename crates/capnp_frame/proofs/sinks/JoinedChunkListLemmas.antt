-- Lists of chunks that are joined, as the segments up to an index and one more: what they append, with which
-- errors they fail, and how long they are.
use Rattle.std.proofs.Common.{◌≡◌, ℕ, ◌+◌, ◌-◌, ◌<◌, ◌≤◌, ◌^◌, Option, Some, ◌⊎◌, inl, inr, zero, suc, List, ◌∷◌, ◌++◌, length, take, []}
use Rattle.std.proofs.Common.{drop, refl, sym, ap, ◌∙◌, subst, arith, append_assoc}
use Rattle.std.proofs.lemmas.List.{append-nil, take_more, map-append, length-map, take-append-drop, length-take-le}
use Rattle.std.proofs.lemmas.List.Sums.{sum_by-cons}
use Rattle.std.proofs.lemmas.Option.{slice_get_within, get_or_from_slice_get}
use Rattle.std.specs.Prelude.{slice_get, sum}
use Rattle.std.specs.List.{AllByRecursion}
use Rattle.capnp_frame.specs.declared.error.ErrorKind.{ErrorKind}
use Rattle.capnp_frame.specs.Prelude.{word_count, lengths, size_in_words, FitsField, IfKnown, Appending, Declining, AppendsAll, ChunksError, Adds}
use Rattle.capnp_frame.proofs.sources.JoinedRequestPartsLemmas.{IfKnown-join, IfKnown-weaker}
use Rattle.capnp_frame.proofs.tables.PartsCutAtRunningSumsLemmas.{sum_push}

-- chunks

pub AppendsAll-append : (appends : Appending) (xs ys : List (List ℕ)) (s t : List ℕ) → AppendsAll appends xs s → AppendsAll appends ys t → AppendsAll appends (xs ++ ys) (s ++ t)
AppendsAll-append appends [] ys s t p q = subst (λ l. AppendsAll appends ys (l ++ t)) (sym p) q
AppendsAll-append appends (x ∷ xs) ys s t p q = (p.0, p.1 ++ t, p.2, AppendsAll-append appends xs ys p.1 t p.3 q, ap (λ l. l ++ t) p.4 ∙ append_assoc p.0 p.1 t)

pub written_more : (appends : Appending) (xs ys : List (List ℕ)) (a b c : Option (List ℕ))
    → IfKnown a b (Adds (AppendsAll appends xs)) → IfKnown b c (Adds (AppendsAll appends ys))
    → IfKnown a c (Adds (AppendsAll appends (xs ++ ys)))
written_more appends xs ys a b c = IfKnown-join a b c (λ x y z p q. (p.0 ++ q.0, AppendsAll-append appends xs ys p.0 q.0 p.1 q.1, q.2 ∙ ap (λ l. l ++ q.0) p.2 ∙ append_assoc x p.0 q.0))

pub written_one : (appends : Appending) (chunk : List ℕ) (a b : Option (List ℕ)) → IfKnown a b (Adds (appends chunk)) → IfKnown a b (Adds (AppendsAll appends (chunk ∷ [])))
written_one appends chunk a b = IfKnown-weaker a b (λ x y p. (p.0, (p.0, [], p.1, refl, sym (append-nil p.0)), p.2))

pub take-next : {X : Type 0} (xs : List X) (i : ℕ) (x : X) → slice_get xs i ≡ Some x → take (i + 1) xs ≡ take i xs ++ x ∷ []
take-next xs i x here = take_more xs i x (slice_get_within xs i x here) ∙ ap (λ y. take i xs ++ y ∷ []) (get_or_from_slice_get xs i x x here)

-- a chunk more
pub next_chunk_written : (appends : Appending) (segments : List (List ℕ)) (index : ℕ) (chunk : List ℕ)
    (a b c : Option (List ℕ)) → slice_get segments index ≡ Some chunk
    → IfKnown a b (Adds (AppendsAll appends (take index segments))) → IfKnown b c (Adds (appends chunk))
    → IfKnown a c (Adds (AppendsAll appends (take (index + 1) segments)))
next_chunk_written appends segments index chunk a b c here before added =
    subst (λ l. IfKnown a c (Adds (AppendsAll appends l))) (sym (take-next segments index chunk here))
    (written_more appends (take index segments) (chunk ∷ []) a b c before (written_one appends chunk b c added))

pub ChunksError-front : (refuses : Declining) (xs ys : List (List ℕ)) (kind : ErrorKind) → ChunksError refuses xs kind → ChunksError refuses (xs ++ ys) kind
ChunksError-front refuses [] ys kind p = absurd p
ChunksError-front refuses (x ∷ xs) ys kind (inl p) = inl p
ChunksError-front refuses (x ∷ xs) ys kind (inr p) = inr (ChunksError-front refuses xs ys kind p)

pub ChunksError-back : (refuses : Declining) (xs ys : List (List ℕ)) (kind : ErrorKind) → ChunksError refuses ys kind → ChunksError refuses (xs ++ ys) kind
ChunksError-back refuses [] ys kind p = p
ChunksError-back refuses (x ∷ xs) ys kind p = inr (ChunksError-back refuses xs ys kind p)

pub ChunksError-at : (refuses : Declining) (xs : List (List ℕ)) (i : ℕ) (x : List ℕ) (kind : ErrorKind) → slice_get xs i ≡ Some x → refuses x kind → ChunksError refuses xs kind
ChunksError-at refuses [] i x kind here p = cc
ChunksError-at refuses (y ∷ ys) zero x kind here p = let same : y ≡ x = cc in inl (subst (λ l. refuses l kind) (sym same) p)
ChunksError-at refuses (y ∷ ys) (suc i) x kind here p = inr (ChunksError-at refuses ys i x kind here p)

-- tables

pub lengths-next : (segments : List (List ℕ)) (index : ℕ) (segment : List ℕ) → slice_get segments index ≡ Some segment
    → lengths (take (index + 1) segments) ≡ lengths (take index segments) ++ word_count segment ∷ []
lengths-next segments index segment here = ap lengths (take-next segments index segment here) ∙ map-append word_count (take index segments) (segment ∷ [])

pub size-next : (segments : List (List ℕ)) (index : ℕ) (segment : List ℕ) → slice_get segments index ≡ Some segment
    → size_in_words (take (index + 1) segments) ≡ size_in_words (take index segments) + word_count segment
size-next segments index segment here = ap sum (lengths-next segments index segment here) ∙ sum_push (lengths (take index segments)) (word_count segment)

sum-append : (ms ns : List ℕ) → sum (ms ++ ns) ≡ sum ms + sum ns
sum-append [] ns = omega arith
sum-append (m ∷ ms) ns = omega (arith, sum_by-cons (λ x. x) m (ms ++ ns), sum_by-cons (λ x. x) m ms, sum-append ms ns)

pub size_take_le : (segments : List (List ℕ)) (index : ℕ) → size_in_words (take index segments) ≤ size_in_words segments
size_take_le segments index =
    let parts : size_in_words segments ≡ sum (lengths (take index segments) ++ lengths (drop index segments)) = ap
    size_in_words (sym (take-append-drop index segments))
    ∙ ap sum (map-append word_count (take index segments) (drop index segments)) in
    omega (arith, parts, sum-append (lengths (take index segments)) (lengths (drop index segments)))

-- the error of one chunk, and the device's
pub chunk_error_at : {F : Type 0} (refuses : Declining) (segments : List (List ℕ)) (index : ℕ) (segment : List ℕ)
    (kind : ErrorKind) → slice_get segments index ≡ Some segment → F ⊎ refuses segment kind → F
    ⊎ ChunksError refuses segments kind
chunk_error_at refuses segments index segment kind here (inl failed) = inl failed
chunk_error_at refuses segments index segment kind here (inr errors) = inr (ChunksError-at refuses segments index segment kind here errors)

pub le_of_not_lt : (m n : ℕ) → (n < m → ⊥) → m ≤ n
le_of_not_lt m n never = omega arith

-- what holds of each item holds of the item at an index
pub AllByRecursion-at : {X : Type 0} (P : X → Type 0) (xs : List X) (i : ℕ) (x : X) → AllByRecursion P xs → slice_get xs i ≡ Some x → P x
AllByRecursion-at P [] i x all here = cc
AllByRecursion-at P (y ∷ ys) zero x all here = let same : y ≡ x = cc in subst P same all.0
AllByRecursion-at P (y ∷ ys) (suc i) x all here = AllByRecursion-at P ys i x all.1 here

pub fits_at : (segments : List (List ℕ)) (i : ℕ) (segment : List ℕ) → AllByRecursion FitsField (lengths segments) → slice_get segments i ≡ Some segment → word_count segment < 2 ^ 32
fits_at [] i segment all here = cc
fits_at (s ∷ ss) zero segment all here = let same : s ≡ segment = cc in subst (λ l. word_count l < 2 ^ 32) same all.0
fits_at (s ∷ ss) (suc i) segment all here = fits_at ss i segment all.1 here

pub length-lengths : (segments : List (List ℕ)) → length (lengths segments) ≡ length segments
length-lengths segments = length-map segments word_count

pub length-lengths_take : (segments : List (List ℕ)) (i : ℕ) → i ≤ length segments → length (lengths (take i segments)) ≡ i
length-lengths_take segments i within = length-map (take i segments) word_count ∙ length-take-le i segments within
