-- How the outcome of a packer's call that hands bytes on to a sink, alone or after one that succeeded, becomes the
-- outcome of the whole.
use Rattle.std.proofs.Common.{◌≡◌, ◌⊎◌, ℕ, List, Result, Ok, Err, IfErr, OnOk, OnErr, refl, sym, subst, []}
use Rattle.std.specs.Result.{IsErrAnd}
use Rattle.capnp_frame.specs.declared.error.Error.{Error}
use Rattle.capnp_frame.specs.declared.error.ErrorKind.TheVariants.{DeviceFailed}
use Rattle.capnp_frame.specs.declared.io.Write.{Ghosts as Sink}
use Rattle.capnp_frame.specs.Prelude.{FailsOr, Adds, AnyChunkError, Grows, IsPreorder, IfKnown, Fails, WritesTo}
use Rattle.capnp_frame.proofs.sources.JoinedRequestPartsLemmas.{Grows-join, Fails-join}
use Rattle.capnp_pack.specs.Prelude.{LeavesOf, HandsOn, Hands}
use Rattle.capnp_pack.proofs.packing.HandedAndBufferedBytesJoinLemmas.{IfKnown-flush, any_chunk_error}
use Rattle.capnp_pack.proofs.packing.LeftAfterFailureLemmas.{left_chunk}

-- one chunk, which is all that is kept
pub hands_chunk : {S X : Type 0} (sink : Sink S) (old new : S) (kept chunk : List ℕ) (r : Result X Error) → kept ≡ chunk
    → OnOk r (IfKnown (sink.written old) (sink.written new) (Adds (sink.appends chunk)))
    → OnErr r (IfKnown (sink.written old) (sink.written new) (Adds (sink.leaves chunk))) → FailsOr r (sink.refuses chunk)
    → IfErr r (λ e. e.kind ≡ DeviceFailed → Fails (sink.failures old) (sink.failures new)) → Grows sink.written sink.failures sink.same old new
    → HandsOn sink old new (λ encoding. encoding ≡ kept) (λ _. IfKnown (sink.written old) (sink.written new) (Hands sink.appends kept [] [])) r
hands_chunk sink old new kept chunk (Ok x) is added left errors failed grows =
    record { handed = IfKnown-flush sink.appends kept chunk _ _ is added; left = tt; errors = tt; failed = tt; grows = grows }
hands_chunk sink old new kept chunk (Err e) is added left errors failed grows = record {
  handed = tt;
  left = (kept, refl, left_chunk sink.appends sink.leaves kept chunk (sink.written old) (sink.written new) is left);
  errors = any_chunk_error (e.kind ≡ DeviceFailed) sink.refuses chunk e.kind errors;
  failed = failed;
  grows = grows;
}

-- a call that returns
pub hands_ok : {S X : Type 0} (sink : Sink S) (old new : S) (remains : List ℕ → Type 0) (hands : X → Type 0) (x : X) → hands x
    → Grows sink.written sink.failures sink.same old new → HandsOn sink old new remains hands (Ok x)
hands_ok sink old new remains hands x handed grows = record { handed = handed; left = tt; errors = tt; failed = tt; grows = grows }

-- a failure that is passed on
pub hands_passed : {S X Y : Type 0} (sink : Sink S) (old new : S) (remains more : List ℕ → Type 0) (first : X → Type 0) (hands : Y → Type 0) (e : Error)
    (r : Result Y Error) → IsErrAnd r (λ y. y ≡ e) → (LeavesOf sink old new remains → LeavesOf sink old new more)
    → HandsOn sink old new remains first (Err e) → HandsOn sink old new more hands r
hands_passed sink old new remains more first hands e (Ok y) is turn reported = absurd is
hands_passed sink old new remains more first hands e (Err own) is turn reported =
    subst (λ y. HandsOn sink old new more hands (Err y)) (sym is)
    (record { handed = tt; left = turn reported.left; errors = reported.errors; failed = reported.failed; grows = reported.grows })

-- the sink fails for a chunk, after a call that succeeded
pub hands_err : {S X : Type 0} (sink : Sink S) (keeps : IsPreorder sink.same) (a b c : S) (remains : List ℕ → Type 0) (hands : X → Type 0) (chunk : List ℕ)
    (e : Error) (r : Result X Error) → IsErrAnd r (λ y. y ≡ e) → LeavesOf sink a c remains → (e.kind ≡ DeviceFailed) ⊎ sink.refuses chunk e.kind
    → (e.kind ≡ DeviceFailed → Fails (sink.failures b) (sink.failures c)) → Grows sink.written sink.failures sink.same a b
    → Grows sink.written sink.failures sink.same b c → HandsOn sink a c remains hands r
hands_err sink keeps a b c remains hands chunk e (Ok x) is left errors failed before grows = absurd is
hands_err sink keeps a b c remains hands chunk e (Err own) is left errors failed before grows =
    subst (λ y. HandsOn sink a c remains hands (Err y)) (sym is) (record {
      handed = tt;
      left = left;
      errors = any_chunk_error (e.kind ≡ DeviceFailed) sink.refuses chunk e.kind errors;
      failed = λ device. Fails-join (sink.failures a) (sink.failures b) (sink.failures c) before.counted (failed device);
      grows = Grows-join a b c (keeps.transitive a b c) before grows;
    })

-- a call of a packer that fails, after those that succeeded
pub hands_failed : {S X Y : Type 0} (sink : Sink S) (keeps : IsPreorder sink.same) (a b c : S) (remains : List ℕ → Type 0) (hands : X → Type 0)
    (adds leaves : List ℕ → Type 0) (e : Error) (r : Result Y Error) → IsErrAnd r (λ y. y ≡ e)
    → (LeavesOf sink b c remains → IfKnown (sink.written a) (sink.written c) (Adds leaves)) → Grows sink.written sink.failures sink.same a b
    → HandsOn sink b c remains hands (Err e) → WritesTo sink a c adds leaves (AnyChunkError sink.refuses) r
hands_failed sink keeps a b c remains hands adds leaves e (Ok y) is turn before reported = absurd is
hands_failed {Y = Y} sink keeps a b c remains hands adds leaves e (Err own) is turn before reported =
    subst (λ y. WritesTo {X = Y} sink a c adds leaves (AnyChunkError sink.refuses) (Err y)) (sym is) (record {
      written = tt;
      left = turn reported.left;
      errors = reported.errors;
      failed = λ device. Fails-join (sink.failures a) (sink.failures b) (sink.failures c) before.counted (reported.failed device);
      grows = Grows-join a b c (keeps.transitive a b c) before reported.grows;
    })

-- the last call of a packer
pub hands_last : {S X : Type 0} (sink : Sink S) (keeps : IsPreorder sink.same) (a b c : S) (P : Type 0) (remains adds leaves : List ℕ → Type 0) (r : Result X Error)
    → (P → IfKnown (sink.written a) (sink.written c) (Adds adds)) → (LeavesOf sink b c remains → IfKnown (sink.written a) (sink.written c) (Adds leaves))
    → Grows sink.written sink.failures sink.same a b → HandsOn sink b c remains (λ _. P) r → WritesTo sink a c adds leaves (AnyChunkError sink.refuses) r
hands_last sink keeps a b c P remains adds leaves (Ok x) all turn before reported =
    record { written = all reported.handed; left = tt; errors = tt; failed = tt; grows = Grows-join a b c (keeps.transitive a b c) before reported.grows }
hands_last sink keeps a b c P remains adds leaves (Err e) all turn before reported = hands_failed sink keeps a b c remains (λ _. P) adds leaves e (Err e) refl turn before reported
