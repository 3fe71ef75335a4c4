-- Calls that pack chunks into a sink, one after another: together they pack all these chunks, and the error of one
-- that fails is an error of all.
use Rattle.std.proofs.Common.{◌≡◌, ℕ, ◌+◌, ◌⊎◌, inl, inr, List, [], ◌∷◌, ◌++◌, length, take, drop, Result, Ok, Err, OnOk, IfErr, IsOk, Some, refl, sym, ap, ◌∙◌, subst, arith, append_assoc, length-append}
use Rattle.std.proofs.lemmas.List.{take-append-drop}
use Rattle.std.proofs.lemmas.Bool.{false≢true}
use Rattle.std.specs.Prelude.{slice_get}
use Rattle.capnp_frame.specs.declared.error.Error.{Error}
use Rattle.capnp_frame.specs.declared.error.ErrorKind.TheVariants.{DeviceFailed}
use Rattle.capnp_frame.specs.declared.io.Write.{Ghosts}
use Rattle.capnp_frame.specs.Prelude.{Adds, AppendsAll, ChunksError, Grows, IfKnown, IsPreorder, Fails}
use Rattle.capnp_frame.proofs.sources.JoinedRequestPartsLemmas.{Grows-join, Fails-join}
use Rattle.capnp_frame.proofs.sinks.JoinedChunkListLemmas.{take-next, written_more, written_one, ChunksError-front, ChunksError-back}
use Rattle.capnp_pack.specs.Prelude.{Packs, AppendsPacked, PackedChunkError}
use Rattle.capnp_c.specs.Packing.{PacksChunks}

-- one chunk
pub packs_one : {S X : Type 0} (sink : Ghosts S) (old new : S) (chunk : List ℕ) (r : Result X Error)
    → OnOk r (IfKnown (sink.written old) (sink.written new) (Adds (AppendsPacked sink.appends chunk)))
    → IfErr r (λ error. (error.kind ≡ DeviceFailed) ⊎ PackedChunkError sink.refuses chunk error.kind)
    → IfErr r (λ error. error.kind ≡ DeviceFailed → Fails (sink.failures old) (sink.failures new))
    → ((encoding : List ℕ) (more : ℕ) → Packs chunk encoding → sink.grants old (length encoding + more) → IsOk r × sink.grants new more)
    → Grows sink.written sink.failures sink.same old new → PacksChunks sink old new (chunk ∷ []) r
packs_one {S} {X} sink old new chunk r packed errors failed granted grows = record {
  packed = added r packed;
  errors = chunk_errors r errors;
  failed = failed;
  granted = λ encoding more (first, others, packs, none, e) grants.
      granted first more packs (subst (λ k. sink.grants old k) (omega (arith, ap length e, ap length none, length-append first others)) grants);
  grows = grows;
}
  where
    added : (r : Result X Error) → OnOk r (IfKnown (sink.written old) (sink.written new) (Adds (AppendsPacked sink.appends chunk)))
        → OnOk r (IfKnown (sink.written old) (sink.written new) (Adds (AppendsAll (AppendsPacked sink.appends) (chunk ∷ []))))
    added (Ok x) p = written_one (AppendsPacked sink.appends) chunk (sink.written old) (sink.written new) p
    added (Err e) p = tt

    chunk_errors : (r : Result X Error) → IfErr r (λ error. (error.kind ≡ DeviceFailed) ⊎ PackedChunkError sink.refuses chunk error.kind)
        → IfErr r (λ error. (error.kind ≡ DeviceFailed) ⊎ ChunksError (PackedChunkError sink.refuses) (chunk ∷ []) error.kind)
    chunk_errors (Ok x) p = tt
    chunk_errors (Err e) (inl device) = inl device
    chunk_errors (Err e) (inr p) = inr (inl p)

-- an encoding of chunks is an encoding of the first and one of the others
parted : (xs ys : List (List ℕ)) (encoding : List ℕ) → AppendsAll Packs (xs ++ ys) encoding
    → (s t : List ℕ) × AppendsAll Packs xs s × AppendsAll Packs ys t × (encoding ≡ s ++ t)
parted [] ys encoding all = ([], encoding, refl, all, refl)
parted (x ∷ xs) ys encoding (first, others, packs, all, e) =
    let (s, t, front, back, is) = parted xs ys others all in
    (first ++ s, t, (first, s, packs, front, refl), back, e ∙ ap (λ l. first ++ l) is ∙ sym (append_assoc first s t))

-- chunks after those that are packed
pub packs_after : {S X Y : Type 0} (sink : Ghosts S) (keeps : IsPreorder sink.same) (a b c : S) (xs ys : List (List ℕ)) (x : X) (r : Result Y Error)
    → PacksChunks sink a b xs (Ok x) → PacksChunks sink b c ys r → PacksChunks sink a c (xs ++ ys) r
packs_after {S} {X} {Y} sink keeps a b c xs ys x r before reported = record {
  packed = added r reported.packed;
  errors = chunk_errors r reported.errors;
  failed = blamed r reported.failed;
  granted = λ encoding more all grants.
      let (s, t, front, back, e) = parted xs ys encoding all in
      let all_granted : sink.grants a (length s + (length t + more)) = subst (λ k. sink.grants a k) (omega (arith, ap length e, length-append s t)) grants in
      reported.granted t more back (before.granted s (length t + more) front all_granted).1;
  grows = Grows-join a b c (keeps.transitive a b c) before.grows reported.grows;
}
  where
    added : (r : Result Y Error) → OnOk r (IfKnown (sink.written b) (sink.written c) (Adds (AppendsAll (AppendsPacked sink.appends) ys)))
        → OnOk r (IfKnown (sink.written a) (sink.written c) (Adds (AppendsAll (AppendsPacked sink.appends) (xs ++ ys))))
    added (Ok y) p = written_more (AppendsPacked sink.appends) xs ys (sink.written a) (sink.written b) (sink.written c) before.packed p
    added (Err e) p = tt

    chunk_errors : (r : Result Y Error) → IfErr r (λ error. (error.kind ≡ DeviceFailed) ⊎ ChunksError (PackedChunkError sink.refuses) ys error.kind)
        → IfErr r (λ error. (error.kind ≡ DeviceFailed) ⊎ ChunksError (PackedChunkError sink.refuses) (xs ++ ys) error.kind)
    chunk_errors (Ok y) p = tt
    chunk_errors (Err e) (inl device) = inl device
    chunk_errors (Err e) (inr p) = inr (ChunksError-back (PackedChunkError sink.refuses) xs ys e.kind p)

    blamed : (r : Result Y Error) → IfErr r (λ error. error.kind ≡ DeviceFailed → Fails (sink.failures b) (sink.failures c))
        → IfErr r (λ error. error.kind ≡ DeviceFailed → Fails (sink.failures a) (sink.failures c))
    blamed (Ok y) p = tt
    blamed (Err e) p = λ device. Fails-join (sink.failures a) (sink.failures b) (sink.failures c) before.grows.counted (p device)

-- the first chunks are not all packed
pub packs_failed : {S X Y : Type 0} (sink : Ghosts S) (old new : S) (xs ys : List (List ℕ)) (e : Error)
    → PacksChunks {X = X} sink old new xs (Err e) → PacksChunks {X = Y} sink old new (xs ++ ys) (Err e)
packs_failed sink old new xs ys e reported = record {
  packed = tt;
  errors = more reported.errors;
  failed = reported.failed;
  granted = λ encoding more all grants.
      let (s, t, front, back, is) = parted xs ys encoding all in
      absurd (false≢true (reported.granted s (length t + more) front (subst (λ k. sink.grants old k) (omega (arith, ap length is, length-append s t)) grants)).0);
  grows = reported.grows;
}
  where
    more : (e.kind ≡ DeviceFailed) ⊎ ChunksError (PackedChunkError sink.refuses) xs e.kind → (e.kind ≡ DeviceFailed) ⊎ ChunksError (PackedChunkError sink.refuses) (xs ++ ys) e.kind
    more (inl device) = inl device
    more (inr p) = inr (ChunksError-front (PackedChunkError sink.refuses) xs ys e.kind p)

-- the chunk at an index, after those before it
pub packs_next : {S X Y : Type 0} (sink : Ghosts S) (keeps : IsPreorder sink.same) (a b c : S) (chunks : List (List ℕ)) (index : ℕ) (chunk : List ℕ)
    (x : X) (r : Result Y Error) → slice_get chunks index ≡ Some chunk
    → PacksChunks sink a b (take index chunks) (Ok x) → PacksChunks sink b c (chunk ∷ []) r → PacksChunks sink a c (take (index + 1) chunks) r
packs_next sink keeps a b c chunks index chunk x r here before reported =
    subst (λ l. PacksChunks sink a c l r) (sym (take-next chunks index chunk here)) (packs_after sink keeps a b c (take index chunks) (chunk ∷ []) x r before reported)

-- it is not packed
pub packs_failed_at : {S X Y : Type 0} (sink : Ghosts S) (old new : S) (chunks : List (List ℕ)) (count : ℕ) (e : Error)
    → PacksChunks {X = X} sink old new (take count chunks) (Err e) → PacksChunks {X = Y} sink old new chunks (Err e)
packs_failed_at {X = X} {Y = Y} sink old new chunks count e reported =
    subst (λ l. PacksChunks {X = Y} sink old new l (Err e)) (take-append-drop count chunks) (packs_failed {X = X} sink old new (take count chunks) (drop count chunks) e reported)
