-- A canonical form is written as the message of one segment, and where there is none nothing is written.
use Rattle.std.proofs.Common.{◌≡◌, ◌⊎◌, ℕ, suc, ◌/◌, ◌^◌, ◌<◌, List, [], ◌∷◌, length, refl, Result, Ok, Err, true, inl, inr, sym, ap, subst, arith}
use Rattle.std.specs.Result.{IsErrAnd}
use Rattle.capnp_frame.specs.declared.error.Error.{Error}
use Rattle.capnp_frame.specs.declared.error.ErrorKind.{ErrorKind}
use Rattle.capnp_frame.specs.declared.error.ErrorKind.TheVariants.{DeviceFailed, OutOfMemory}
use Rattle.capnp_frame.specs.declared.io.Write.{Ghosts}
use Rattle.capnp_frame.specs.Prelude.{Declining, Adds, AppendsAll, LeavesSome, ChunksError, FailsOr, IsPreorder, Fails, WritesTo, WritesSegments, IsWritable, chunks}
use Rattle.capnp_frame.proofs.sources.JoinedCallsAdvanceSourceLemmas.{passed_on}
use Rattle.capnp_frame.proofs.sources.JoinedRequestPartsLemmas.{Grows-refl, IfKnown-refl, IfKnown-weaker}
use Rattle.std.proofs.lemmas.List.{append-nil}
use Rattle.capnp_layout.specs.Prelude.{words_of, total_words, trim, body}
use Rattle.capnp_wire.specs.Prelude.{Pointer, IsCanonicalForm}
use Rattle.capnp_layout.proofs.layouts.LayoutSizeLemmas.{length-body}
use Rattle.capnp_wire.proofs.layouts.CopyPlanFillsLayoutLemmas.{room_output}
use Rattle.capnp_layout.proofs.words.WordsOfBytesLemmas.{length-words_of}
use Rattle.capnp_message.specs.Canonical.{CanonicalFormError}
use Rattle.capnp.specs.Prelude.{IsForm, AppendsForm, LeavesForm, FormSinkError, WrittenFormError, WriterError}
use Rattle.capnp.proofs.CanonicalFormErrorExcludesDeviceLemmas.{result_blames_none}

-- a form has fewer words than a segment may
pub form_is_small : (pointer : Pointer) (form : List ℕ) → IsCanonicalForm pointer (words_of form) → length form / 8 < 2 ^ 32
form_is_small pointer form is =
    let size : length (body (trim is.trees)) ≡ total_words (trim is.trees) = length-body (trim is.trees) (room_output true is.trees is.rooms) in
    let long : length (words_of form) ≡ suc (length (body (trim is.trees))) = ap length is.words_are in
    omega (arith, long, size, is.few, length-words_of form)

pub one_writable : (pointer : Pointer) (form : List ℕ) → IsForm pointer form → IsWritable (form ∷ [])
one_writable pointer form is = record {
  some = omega arith;
  few = omega arith;
  whole = (is.whole, tt);
  each = (form_is_small pointer form is.words_are, tt);
}

-- an error of the reader's is one of the form's
form_reading_error : (pointer : Pointer) (refuses : Declining) (kind : ErrorKind) → CanonicalFormError pointer kind ⊎ (kind ≡ OutOfMemory)
    → (kind ≡ DeviceFailed) ⊎ (kind ≡ OutOfMemory) ⊎ WrittenFormError pointer refuses kind
form_reading_error pointer refuses kind (inl form_error) = inr (inr (inl form_error))
form_reading_error pointer refuses kind (inr memory) = inr (inl memory)

-- a failure after a call is a failure of both
pub error_on : {Y : Type 0} {error : Error} (P : Error → Type 0) (result : Result Y Error) → IsErrAnd result (λ y. y ≡ error) → P error → IsErrAnd result P
error_on P (Ok y) is p = is
error_on P (Err e) is p = subst P (sym is) p

-- the engine's error is one of the form's
form_writing_error : (pointer : Pointer) (refuses : Declining) (form : List ℕ) (segments : List (List ℕ)) (kind : ErrorKind) → IsForm pointer form → segments ≡ form ∷ []
    → WriterError refuses segments kind → (kind ≡ DeviceFailed) ⊎ (kind ≡ OutOfMemory) ⊎ WrittenFormError pointer refuses kind
form_writing_error pointer refuses form segments kind is_found is (inl failed) = inl failed
form_writing_error pointer refuses form segments kind is_found is (inr (inl chunk_errors)) =
    inr (inr (inr (form, is_found, subst (λ (s : List (List ℕ)). ChunksError refuses (chunks s) kind) is chunk_errors)))
form_writing_error pointer refuses form segments kind is_found is (inr (inr (inl many))) = absurd (omega (arith, many.0, ap length is))
form_writing_error pointer refuses form segments kind is_found is (inr (inr (inr memory))) = inr (inl memory.1)

-- so where there is no form, nothing is written
pub without_form : {S X : Type 0} (sink : Ghosts S) (keeps : IsPreorder sink.same) (s : S) (pointer : Pointer) (e : Error) (r : Result X Error)
    → IsErrAnd r (λ y. y ≡ e) → CanonicalFormError pointer e.kind ⊎ (e.kind ≡ OutOfMemory)
    → WritesTo sink s s (AppendsForm pointer sink.appends) (LeavesForm pointer sink.appends sink.leaves) (λ kind. (kind ≡ OutOfMemory) ⊎ WrittenFormError pointer sink.refuses kind) r
without_form sink keeps s pointer e (Ok y) is form_error = absurd is
without_form {X = X} sink keeps s pointer e (Err o) is form_error = record {
  written = tt;
  left = IfKnown-refl (Adds (LeavesForm pointer sink.appends sink.leaves)) (sink.written s) (λ x. ([], inl refl, sym (append-nil x)));
  errors = passed_on {Y = X} {error = e} (λ (y : Error). (y.kind ≡ DeviceFailed) ⊎ (y.kind ≡ OutOfMemory) ⊎ WrittenFormError pointer sink.refuses y.kind)
      (Err o) is (form_reading_error pointer sink.refuses e.kind form_error);
  failed = passed_on {Y = X} {error = e} (λ (y : Error). y.kind ≡ DeviceFailed → Fails (sink.failures s) (sink.failures s)) (Err o) is
      (λ device. absurd (result_blames_none pointer e.kind form_error device));
  grows = Grows-refl s (keeps.reflexive s);
}

-- and the form is written as the message of one segment
pub form_written : {S X : Type 0} (sink : Ghosts S) (old new : S) (pointer : Pointer) (form : List ℕ) (segments : List (List ℕ)) (r : Result X Error)
    → IsForm pointer form → segments ≡ form ∷ [] → WritesSegments sink old new segments r
    → WritesTo sink old new (AppendsForm pointer sink.appends) (LeavesForm pointer sink.appends sink.leaves) (λ kind. (kind ≡ OutOfMemory) ⊎ WrittenFormError pointer sink.refuses kind) r
form_written sink old new pointer form segments (Ok x) is_found is reported = record {
  written = IfKnown-weaker (sink.written old) (sink.written new) (λ before after (encoding, p, e).
      (encoding, (form, is_found, subst (λ (s : List (List ℕ)). AppendsAll sink.appends (chunks s) encoding) is p), e)) reported.parts.written;
  left = tt;
  errors = tt;
  failed = tt;
  grows = reported.parts.grows;
}
form_written sink old new pointer form segments (Err e) is_found is reported = record {
  written = tt;
  left = IfKnown-weaker (sink.written old) (sink.written new) (λ before after (encoding, p, e).
      (encoding, inr (form, is_found, subst (λ (s : List (List ℕ)). LeavesSome sink.appends sink.leaves (chunks s) encoding) is p), e)) reported.parts.left;
  errors = form_writing_error pointer sink.refuses form segments e.kind is_found is reported.parts.errors;
  failed = reported.parts.failed;
  grows = reported.parts.grows;
}

-- nothing of it is written unless the sink fails for a chunk
pub form_untouched : {S X : Type 0} (sink : Ghosts S) (old new : S) (pointer : Pointer) (form : List ℕ) (segments : List (List ℕ)) (r : Result X Error)
    → IsForm pointer form → segments ≡ form ∷ [] → WritesSegments sink old new segments r → FailsOr r (λ kind. FormSinkError pointer sink.refuses kind ⊎ (new ≡ old))
form_untouched sink old new pointer form segments (Ok x) is_found is reported = tt
form_untouched sink old new pointer form segments (Err e) is_found is reported = elim reported.parts.untouched [
  | inl failed ↦ inl failed
  | inr (inl chunk_errors) ↦ inr (inl (form, is_found, subst (λ (s : List (List ℕ)). ChunksError sink.refuses (chunks s) e.kind) is chunk_errors))
  | inr (inr same) ↦ inr (inr same)
]
