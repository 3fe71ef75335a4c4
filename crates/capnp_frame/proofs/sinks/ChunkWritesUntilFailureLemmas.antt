-- Chunks that are written to a sink, one call after another: what they add, and what is left of them where one
-- fails.
use Rattle.std.proofs.Common.{◌≡◌, ℕ, ◌+◌, ◌*◌, ◌⊎◌, inl, inr, List, [], ◌∷◌, ◌++◌, length, take, drop, Result, Ok, Err, OnOk, OnErr, IfErr, Option, Some, refl, sym, ap, ◌∙◌, subst, arith, append_assoc}
use Rattle.std.proofs.lemmas.List.{append-nil, take-append-drop}
use Rattle.std.specs.Prelude.{slice_get}
use Rattle.std.specs.List.{concat}
use Rattle.capnp_frame.specs.declared.error.Error.{Error}
use Rattle.capnp_frame.specs.declared.error.ErrorKind.{ErrorKind}
use Rattle.capnp_frame.specs.declared.io.Write.{Ghosts}
use Rattle.capnp_frame.specs.declared.error.ErrorKind.TheVariants.{DeviceFailed, InvalidNumberOfSegments}
use Rattle.capnp_frame.specs.Prelude.{FailsOr, IfKnown, IsFront, IsPreorder, Fails, Appending, Leaving, AppendsSame, Adds, AppendsAll, LeavesSome, ChunksError, Grows, WritesTo, WritesChunks, WritesSegments, TakesGranted, KeepsCount, UnwrittenError, IsWithinSegmentLimit, SegmentCountError, chunks, serialized_words}
use Rattle.capnp_frame.proofs.sources.JoinedRequestPartsLemmas.{IfKnown-join, IfKnown-weaker, IfKnown-refl, Grows-join, Grows-refl, Fails-join}
use Rattle.capnp_frame.proofs.sinks.JoinedChunkListLemmas.{take-next, written_more, written_one, ChunksError-front, ChunksError-back, chunk_error_at}

-- what fails for one reason fails for one of two
fails_for_one : {F P Q : Type 0} → F ⊎ P → F ⊎ (P ⊎ Q)
fails_for_one (inl failed) = inl failed
fails_for_one (inr errors) = inr (inl errors)

-- What a call that fails leaves

left_none : (appends : Appending) (leaves : Leaving) (xs : List (List ℕ)) → LeavesSome appends leaves xs []
left_none appends leaves [] = refl
left_none appends leaves (x ∷ xs) = inl refl

pub left_front : (appends : Appending) (leaves : Leaving) (xs ys : List (List ℕ)) (added : List ℕ)
    → LeavesSome appends leaves xs added → LeavesSome appends leaves (xs ++ ys) added
left_front appends leaves [] ys added p = subst (LeavesSome appends leaves ys) (sym p) (left_none appends leaves ys)
left_front appends leaves (x ∷ xs) ys added (inl p) = inl p
left_front appends leaves (x ∷ xs) ys added (inr (inl p)) = inr (inl p)
left_front appends leaves (x ∷ xs) ys added (inr (inr p)) = inr (inr (p.0, p.1, p.2, left_front appends leaves xs ys p.1 p.3, p.4))

pub left_after : (appends : Appending) (leaves : Leaving) (xs ys : List (List ℕ)) (s t : List ℕ)
    → AppendsAll appends xs s → LeavesSome appends leaves ys t → LeavesSome appends leaves (xs ++ ys) (s ++ t)
left_after appends leaves [] ys s t p q = subst (λ l. LeavesSome appends leaves ys (l ++ t)) (sym p) q
left_after appends leaves (x ∷ xs) ys s t p q =
    inr (inr (p.0, p.1 ++ t, p.2, left_after appends leaves xs ys p.1 t p.3 q, ap (λ l. l ++ t) p.4 ∙ append_assoc p.0 p.1 t))

-- nothing
pub left_same : (appends : Appending) (leaves : Leaving) (xs : List (List ℕ)) (a : Option (List ℕ)) → IfKnown a a (Adds (LeavesSome appends leaves xs))
left_same appends leaves xs a = IfKnown-refl (Adds (LeavesSome appends leaves xs)) a (λ x. ([], left_none appends leaves xs, sym (append-nil x)))

-- a front of more chunks
pub left_more : (appends : Appending) (leaves : Leaving) (xs ys : List (List ℕ)) (a b : Option (List ℕ))
    → IfKnown a b (Adds (LeavesSome appends leaves xs)) → IfKnown a b (Adds (LeavesSome appends leaves (xs ++ ys)))
left_more appends leaves xs ys a b = IfKnown-weaker a b (λ x y p. (p.0, left_front appends leaves xs ys p.0 p.1, p.2))

-- a part of one chunk
pub left_one : (appends : Appending) (leaves : Leaving) (chunk : List ℕ) (a b : Option (List ℕ))
    → IfKnown a b (Adds (leaves chunk)) → IfKnown a b (Adds (LeavesSome appends leaves (chunk ∷ [])))
left_one appends leaves chunk a b = IfKnown-weaker a b (λ x y p. (p.0, inr (inl p.1), p.2))

-- what is left after chunks that are written
pub left_following : (appends : Appending) (leaves : Leaving) (xs ys : List (List ℕ)) (a b c : Option (List ℕ))
    → IfKnown a b (Adds (AppendsAll appends xs)) → IfKnown b c (Adds (LeavesSome appends leaves ys))
    → IfKnown a c (Adds (LeavesSome appends leaves (xs ++ ys)))
left_following appends leaves xs ys a b c =
    IfKnown-join a b c (λ x y z p q. (p.0 ++ q.0, left_after appends leaves xs ys p.0 q.0 p.1 q.1, q.2 ∙ ap (λ l. l ++ q.0) p.2 ∙ append_assoc x p.0 q.0))

-- a part of the chunk at an index, after those before it
left_at : (appends : Appending) (leaves : Leaving) (xs : List (List ℕ)) (i : ℕ) (x : List ℕ) (a b c : Option (List ℕ)) → slice_get xs i ≡ Some x
    → IfKnown a b (Adds (AppendsAll appends (take i xs))) → IfKnown b c (Adds (leaves x)) → IfKnown a c (Adds (LeavesSome appends leaves xs))
left_at appends leaves xs i x a b c here before remains =
    let parts : (take i xs ++ x ∷ []) ++ drop (i + 1) xs ≡ xs = ap (λ l. l ++ drop (i + 1) xs) (sym (take-next xs i x here)) ∙ take-append-drop (i + 1) xs in
    subst (λ l. IfKnown a c (Adds (LeavesSome appends leaves l))) parts
    (left_more appends leaves (take i xs ++ x ∷ []) (drop (i + 1) xs) a c
    (left_following appends leaves (take i xs) (x ∷ []) a b c before (left_one appends leaves x b c remains)))

-- at a plain sink it is a front of the chunks, joined
pub left_is_front : (leaves : Leaving) → ((chunk added : List ℕ) → leaves chunk added → IsFront added chunk) → (xs : List (List ℕ)) (added : List ℕ)
    → LeavesSome AppendsSame leaves xs added → IsFront added (concat xs)
left_is_front leaves within [] added p = ([], sym (append-nil added ∙ p))
left_is_front leaves within (x ∷ xs) added (inl p) = (concat (x ∷ xs), sym (ap (λ l. l ++ concat (x ∷ xs)) p))
left_is_front leaves within (x ∷ xs) added (inr (inl p)) = let (tail, e) = within x added p in
    (tail ++ concat xs, ap (λ l. l ++ concat xs) e ∙ append_assoc added tail (concat xs))
left_is_front leaves within (x ∷ xs) added (inr (inr p)) = let (tail, e) = left_is_front leaves within xs p.1 p.3 in
    (tail, ap (λ l. x ++ l) e ∙ sym (append_assoc x p.1 tail) ∙ ap (λ l. l ++ tail) (ap (λ l. l ++ p.1) (sym p.2) ∙ sym p.4))

-- Writing

-- a call that only writes the chunks
pub writes_chunks : {S X : Type 0} (sink : Ghosts S) (old new : S) (xs : List (List ℕ)) (early : ErrorKind → Type 0) (r : Result X Error)
    → WritesTo sink old new (AppendsAll sink.appends xs) (LeavesSome sink.appends sink.leaves xs) (ChunksError sink.refuses xs) r → WritesChunks sink old new xs early r
writes_chunks sink old new xs early (Ok x) reported = record { written = reported.written; left = tt; errors = tt; untouched = tt; failed = tt; grows = reported.grows }
writes_chunks sink old new xs early (Err e) reported = record { written = tt; left = reported.left; errors = fails_for_one reported.errors; untouched = fails_for_one reported.errors; failed = reported.failed; grows = reported.grows }

-- the first chunks are not all written
pub front_fails : {S X : Type 0} (sink : Ghosts S) (old new : S) (xs ys : List (List ℕ)) (early other : ErrorKind → Type 0) (e : Error)
    → (early e.kind → other e.kind) → WritesChunks {X = X} sink old new xs early (Err e) → WritesChunks {X = X} sink old new (xs ++ ys) other (Err e)
front_fails {X} sink old new xs ys early other e wider reported = record {
  written = tt;
  left = left_more sink.appends sink.leaves xs ys (sink.written old) (sink.written new) reported.left;
  errors = more wider reported.errors;
  untouched = more (λ same. same) reported.untouched;
  failed = reported.failed;
  grows = reported.grows;
}
  where
    more : {F P Q : Type 0} → (P → Q) → F ⊎ (ChunksError sink.refuses xs e.kind ⊎ P) → F ⊎ (ChunksError sink.refuses (xs ++ ys) e.kind ⊎ Q)
    more wider (inl failed) = inl failed
    more wider (inr (inl errors)) = inr (inl (ChunksError-front sink.refuses xs ys e.kind errors))
    more wider (inr (inr p)) = inr (inr (wider p))

-- chunks after those that are written
pub writes_after : {S X : Type 0} (sink : Ghosts S) (keeps : IsPreorder sink.same) (a b c : S) (xs ys : List (List ℕ)) (r : Result X Error)
    → IfKnown (sink.written a) (sink.written b) (Adds (AppendsAll sink.appends xs)) → Grows sink.written sink.failures sink.same a b
    → WritesTo sink b c (AppendsAll sink.appends ys) (LeavesSome sink.appends sink.leaves ys) (ChunksError sink.refuses ys) r
    → WritesTo sink a c (AppendsAll sink.appends (xs ++ ys)) (LeavesSome sink.appends sink.leaves (xs ++ ys)) (ChunksError sink.refuses (xs ++ ys)) r
writes_after sink keeps a b c xs ys (Ok x) before grows reported = record {
  written = written_more sink.appends xs ys _ _ _ before reported.written;
  left = tt;
  errors = tt;
  failed = tt;
  grows = Grows-join a b c (keeps.transitive a b c) grows reported.grows;
}
writes_after sink keeps a b c xs ys (Err e) before grows reported = record {
  written = tt;
  left = left_following sink.appends sink.leaves xs ys (sink.written a) (sink.written b) (sink.written c) before reported.left;
  errors = more reported.errors;
  failed = λ device. Fails-join (sink.failures a) (sink.failures b) (sink.failures c) grows.counted (reported.failed device);
  grows = Grows-join a b c (keeps.transitive a b c) grows reported.grows;
}
  where
    more : {F : Type 0} → F ⊎ ChunksError sink.refuses ys e.kind → F ⊎ ChunksError sink.refuses (xs ++ ys) e.kind
    more (inl failed) = inl failed
    more (inr errors) = inr (ChunksError-back sink.refuses xs ys e.kind errors)

-- one chunk
pub writes_one : {S X : Type 0} (sink : Ghosts S) (old new : S) (chunk : List ℕ) (r : Result X Error)
    → OnOk r (IfKnown (sink.written old) (sink.written new) (Adds (sink.appends chunk)))
    → OnErr r (IfKnown (sink.written old) (sink.written new) (Adds (sink.leaves chunk))) → FailsOr r (sink.refuses chunk)
    → IfErr r (λ error. error.kind ≡ DeviceFailed → Fails (sink.failures old) (sink.failures new)) → Grows sink.written sink.failures sink.same old new
    → WritesTo sink old new (AppendsAll sink.appends (chunk ∷ [])) (LeavesSome sink.appends sink.leaves (chunk ∷ [])) (ChunksError sink.refuses (chunk ∷ [])) r
writes_one sink old new chunk (Ok x) added left errors failed grows = record { written = written_one sink.appends chunk _ _ added; left = tt; errors = tt; failed = tt; grows = grows }
writes_one sink old new chunk (Err e) added left errors failed grows = record { written = tt; left = left_one sink.appends sink.leaves chunk (sink.written old) (sink.written new) left; errors = fails_for_one errors; failed = failed; grows = grows }

-- the first chunk is not written
pub failed_first : {S X : Type 0} (sink : Ghosts S) (old new : S) (chunk : List ℕ) (others : List (List ℕ)) (e : Error)
    → IfKnown (sink.written old) (sink.written new) (Adds (sink.leaves chunk)) → (e.kind ≡ DeviceFailed) ⊎ sink.refuses chunk e.kind
    → (e.kind ≡ DeviceFailed → Fails (sink.failures old) (sink.failures new)) → Grows sink.written sink.failures sink.same old new
    → WritesTo {X = X} sink old new (AppendsAll sink.appends (chunk ∷ others)) (LeavesSome sink.appends sink.leaves (chunk ∷ others))
    (ChunksError sink.refuses (chunk ∷ others)) (Err e)
failed_first sink old new chunk others e left errors failed grows = record {
  written = tt;
  left = left_more sink.appends sink.leaves (chunk ∷ []) others (sink.written old) (sink.written new)
      (left_one sink.appends sink.leaves chunk (sink.written old) (sink.written new) left);
  errors = fails_for_one errors;
  failed = failed;
  grows = grows;
}

-- the chunk at an index fails, after those before it are written
pub failed_at : {S X : Type 0} (sink : Ghosts S) (keeps : IsPreorder sink.same) (a b c : S) (segments : List (List ℕ)) (index : ℕ)
    (segment : List ℕ) (e : Error) → slice_get segments index ≡ Some segment
    → IfKnown (sink.written a) (sink.written b) (Adds (AppendsAll sink.appends (take index segments))) → Grows sink.written sink.failures sink.same a b
    → IfKnown (sink.written b) (sink.written c) (Adds (sink.leaves segment)) → (e.kind ≡ DeviceFailed) ⊎ sink.refuses segment e.kind → (e.kind ≡ DeviceFailed → Fails (sink.failures b) (sink.failures c))
    → Grows sink.written sink.failures sink.same b c
    → WritesTo {X = X} sink a c (AppendsAll sink.appends segments) (LeavesSome sink.appends sink.leaves segments) (ChunksError sink.refuses segments) (Err e)
failed_at sink keeps a b c segments index segment e here written before left errors failed grows = record {
  written = tt;
  left = left_at sink.appends sink.leaves segments index segment (sink.written a) (sink.written b) (sink.written c) here written left;
  errors = chunk_error_at sink.refuses segments index segment e.kind here errors;
  failed = λ device. Fails-join (sink.failures a) (sink.failures b) (sink.failures c) before.counted (failed device);
  grows = Grows-join a b c (keeps.transitive a b c) before grows;
}

-- a message with no more segments than a reader accepts never fails for their number
pub count_kept : {X : Type 0} (segments : List (List ℕ)) (r : Result X Error) → IsWithinSegmentLimit segments → KeepsCount segments r
count_kept segments (Ok x) few = record { few = few; many = λ many. absurd (omega arith) }
count_kept segments (Err e) few = record { few = tt; many = λ many. absurd (omega arith) }

-- so only its chunks stop it
pub few_written : {S X : Type 0} (sink : Ghosts S) (old new : S) (segments : List (List ℕ)) (r : Result X Error) → IsWithinSegmentLimit segments
    → WritesChunks sink old new (chunks segments) (UnwrittenError segments) r
    → TakesGranted sink.grants old new (8 * serialized_words segments) (UnwrittenError segments) r → WritesSegments sink old new segments r
few_written sink old new segments r few reported granted = record { count = count_kept segments r few; unwritten = λ many. absurd (omega arith); parts = reported; granted = granted }

-- and one with more fails before the sink is asked
pub many_segments_error : {S X : Type 0} (sink : Ghosts S) (keeps : IsPreorder sink.same) (same : S) (segments : List (List ℕ)) (e : Error)
    → SegmentCountError segments e.kind → WritesSegments {X = X} sink same same segments (Err e)
many_segments_error sink keeps same segments e many = record {
  count = record { few = tt; many = λ _. many.1 };
  unwritten = λ _. refl;
  parts = record {
    written = tt;
    left = left_same sink.appends sink.leaves (chunks segments) (sink.written same);
    errors = inr (inr (inl many));
    untouched = inr (inr refl);
    failed = λ device. let never : InvalidNumberOfSegments (length segments) ≡ DeviceFailed = sym many.1 ∙ device in cc;
    grows = Grows-refl same (keeps.reflexive same);
  };
  granted = λ more given. (inl many, refl);
}
