-- Chunks within what a sink grants: it still grants the rest after them, and one that fails was not granted.
use Rattle.std.proofs.Common.{◌≡◌, ℕ, ◌+◌, ◌-◌, ◌*◌, ◌≤◌, List, [], ◌∷◌, ◌++◌, length, take, drop, Result, Ok, Err, Some, true, false, sym, ap, ◌∙◌, subst, arith, length-append}
use Rattle.std.proofs.lemmas.Bool.{false≢true}
use Rattle.std.proofs.lemmas.List.{append-nil, take-append-drop}
use Rattle.std.proofs.lemmas.List.Folds.{concat-append}
use Rattle.std.specs.Prelude.{slice_get}
use Rattle.std.specs.List.{concat, AllByRecursion}
use Rattle.capnp_frame.specs.declared.error.Error.{Error}
use Rattle.capnp_frame.specs.declared.error.ErrorKind.{ErrorKind}
use Rattle.capnp_frame.specs.Prelude.{IsWholeWords, table_size, TakesGranted, NoError, serialized_words}
use Rattle.capnp_frame.proofs.encodings.PlainRequestsTakeFrameLemmas.{length-segments}
use Rattle.capnp_frame.proofs.sinks.JoinedChunkListLemmas.{take-next}

-- what a sink grants beyond this many bytes stays granted from one state to another
abbrev pub StaysGranted : {S : Type 0} → (S → ℕ → Type 0) → S → S → ℕ → Type 0
StaysGranted grants a b n = (more : ℕ) → grants a (n + more) → grants b more

-- a sink doesn't grant this many bytes
abbrev pub IsNeverGranted : {S : Type 0} → (S → ℕ → Type 0) → S → ℕ → Type 0
IsNeverGranted grants a n = (more : ℕ) → grants a (n + more) → ⊥

-- nothing is taken of it
pub stays_granted : {S : Type 0} (grants : S → ℕ → Type 0) (a : S) → StaysGranted grants a a 0
stays_granted grants a more given = let same : 0 + more ≡ more = omega arith in subst (grants a) same given

-- the same number of bytes, by another name
pub stays_as : {S : Type 0} (grants : S → ℕ → Type 0) (a b : S) (n m : ℕ) → n ≡ m → StaysGranted grants a b n → StaysGranted grants a b m
stays_as grants a b n m same stays more given = stays more (subst (λ k. grants a (k + more)) (sym same) given)

-- and a call that never fails where these bytes are granted succeeds, whatever kinds `other` allows
pub granted_as : {S X : Type 0} (grants : S → ℕ → Type 0) (a b : S) (n m : ℕ) (other : ErrorKind → Type 0) (r : Result X Error) → n ≡ m
    → TakesGranted grants a b n NoError r → TakesGranted grants a b m other r
granted_as grants a b n m other (Ok x) same takes = stays_as grants a b n m same takes
granted_as grants a b n m other (Err e) same takes = λ more given. absurd (takes more (subst (λ k. grants a (k + more)) (sym same) given)).0

-- some bytes, and then more

pub granted_join : {S : Type 0} (grants : S → ℕ → Type 0) (a b c : S) (n m k : ℕ) → n + m ≡ k → StaysGranted grants a b n → StaysGranted grants b c m → StaysGranted grants a c k
granted_join grants a b c n m k all first second more given =
    let parts : k + more ≡ n + (m + more) = omega (arith, all) in
    second more (first (m + more) (subst (grants a) parts given))

pub granted_after : {S X : Type 0} (grants : S → ℕ → Type 0) (a b c : S) (n m k : ℕ) (other : ErrorKind → Type 0) (r : Result X Error) → n + m ≡ k
    → StaysGranted grants a b n → TakesGranted grants b c m NoError r → TakesGranted grants a c k other r
granted_after grants a b c n m k other (Ok x) all first second = granted_join grants a b c n m k all first second
granted_after grants a b c n m k other (Err e) all first second = λ more given.
    let parts : k + more ≡ n + (m + more) = omega (arith, all) in
    absurd (second more (first (m + more) (subst (grants a) parts given))).0

-- what a failure shows where n bytes are granted it shows where m are, which are no fewer
pub granted_first : {S : Type 0} (grants : S → ℕ → Type 0) (a b : S) (n m : ℕ) (early other : Type 0) → n ≤ m → (early → other)
    → ((more : ℕ) → grants a (n + more) → early × (b ≡ a)) → (more : ℕ) → grants a (m + more) → other × (b ≡ a)
granted_first grants a b n m early other part wider takes more given =
    let parts : m + more ≡ n + ((m - n) + more) = omega (arith, part) in
    let remains = takes ((m - n) + more) (subst (grants a) parts given) in
    (wider remains.0, remains.1)

-- A sink that grants this many bytes rejects none of them

-- a chunk that is rejected wasn't granted
pub never_one : {S : Type 0} (grants : S → ℕ → Type 0) (a b : S) (n : ℕ) → ((more : ℕ) → grants a (n + more) → (false ≡ true) × grants b more) → IsNeverGranted grants a n
never_one grants a b n takes more given = absurd (false≢true (takes more given).0)

-- nor was more
pub never_part : {S : Type 0} (grants : S → ℕ → Type 0) (a : S) (n m : ℕ) → n ≤ m → IsNeverGranted grants a n → IsNeverGranted grants a m
never_part grants a n m part never more given =
    let parts : m + more ≡ n + ((m - n) + more) = omega (arith, part) in
    never ((m - n) + more) (subst (grants a) parts given)

-- nor was it with the bytes before it
pub never_after : {S : Type 0} (grants : S → ℕ → Type 0) (a b : S) (n m k : ℕ) → n + m ≤ k → StaysGranted grants a b n → IsNeverGranted grants b m → IsNeverGranted grants a k
never_after grants a b n m k all first never more given =
    let parts : k + more ≡ n + (m + ((k - (n + m)) + more)) = omega (arith, all) in
    never ((k - (n + m)) + more) (first (m + ((k - (n + m)) + more)) (subst (grants a) parts given))

-- a chunk more

pub length-next : (xs : List (List ℕ)) (i : ℕ) (x : List ℕ) → slice_get xs i ≡ Some x → length (concat (take (i + 1) xs)) ≡ length (concat (take i xs)) + length x
length-next xs i x here =
    ap (λ l. length (concat l)) (take-next xs i x here) ∙ ap length (concat-append (take i xs) (x ∷ []) ∙ ap (λ l. concat (take i xs) ++ l) (append-nil x))
    ∙ length-append (concat (take i xs)) x

pub length-rest : (xs : List (List ℕ)) (i : ℕ) → length (concat xs) ≡ length (concat (take i xs)) + length (concat (drop i xs))
length-rest xs i =
    ap (λ l. length (concat l)) (sym (take-append-drop i xs)) ∙ ap length (concat-append (take i xs) (drop i xs)) ∙ length-append (concat (take i xs)) (concat (drop i xs))

pub granted_next : {S : Type 0} (grants : S → ℕ → Type 0) (a b c : S) (xs : List (List ℕ)) (i : ℕ) (x : List ℕ) → slice_get xs i ≡ Some x
    → StaysGranted grants a b (length (concat (take i xs))) → StaysGranted grants b c (length x) → StaysGranted grants a c (length (concat (take (i + 1) xs)))
granted_next grants a b c xs i x here before taken =
    granted_join grants a b c (length (concat (take i xs))) (length x) (length (concat (take (i + 1) xs))) (sym (length-next xs i x here)) before taken

-- the chunk at an index wasn't granted with those before it
pub never_at : {S : Type 0} (grants : S → ℕ → Type 0) (a b c : S) (xs : List (List ℕ)) (i : ℕ) (x : List ℕ) → slice_get xs i ≡ Some x
    → StaysGranted grants a b (length (concat (take i xs))) → ((more : ℕ) → grants b (length x + more) → (false ≡ true) × grants c more)
    → IsNeverGranted grants a (length (concat xs))
never_at grants a b c xs i x here before takes =
    never_after grants a b (length (concat (take i xs))) (length x) (length (concat xs)) (omega (arith, length-rest xs (i + 1), length-next xs i x here)) before
    (never_one grants b c (length x) takes)

-- a message

-- its table and its segments are the words that it takes
pub granted_words : (segments : List (List ℕ)) → AllByRecursion IsWholeWords segments → table_size (length segments) + length (concat segments) ≡ 8 * serialized_words segments
granted_words segments whole = omega (arith, length-segments segments whole)
