-- What is written for the canonical form of a message (src/serialize/canonical.rt).
use Rattle.std.specs.Prelude.{◌≡◌, ◌⊎◌, ℕ, List, [], ◌∷◌, Result, OnOk}
use Rattle.std.specs.Result.{IsErrAnd}
use Rattle.capnp_frame.specs.declared.error.Error.{Error}
use Rattle.capnp_frame.specs.declared.error.ErrorKind.{ErrorKind}
use Rattle.capnp_frame.specs.declared.error.ErrorKind.TheVariants.{OutOfMemory}
use Rattle.capnp_frame.specs.declared.io.Write.{Ghosts}
use Rattle.capnp_frame.specs.Prelude.{FailsOr, IsWholeWords, Appending, Leaving, AppendsAll, LeavesSome, Declining, ChunksError, Adds, IfKnown, WritesTo, chunks}
use Rattle.capnp_layout.specs.Prelude.{words_of}
use Rattle.capnp_wire.specs.Prelude.{Pointer, IsCanonicalForm}
use Rattle.capnp_message.specs.Canonical.{CanonicalFormError}
use Rattle.capnp.specs.Written.{IsPlainSink, IsFrameEncoding}

-- the one segment of the canonical form of a root
pub record IsForm (pointer : Pointer) (form : List ℕ) : Type 0 where
  pub words_are : IsCanonicalForm pointer (words_of form)
  pub whole : IsWholeWords form

-- the framed encoding of that form
abbrev pub IsCanonicalEncoding : Pointer → List ℕ → Type 0
IsCanonicalEncoding pointer encoding = (form : List ℕ) × IsForm pointer form × IsFrameEncoding (form ∷ []) encoding

-- what a sink adds for it
abbrev pub AppendsForm : Pointer → Appending → List ℕ → Type 0
AppendsForm pointer appends encoding = (form : List ℕ) × IsForm pointer form × AppendsAll appends (chunks (form ∷ [])) encoding

-- what a call that fails leaves of it: nothing, or its first chunks and what the sink leaves of the next one
abbrev pub LeavesForm : Pointer → Appending → Leaving → List ℕ → Type 0
LeavesForm pointer appends leaves encoding = (encoding ≡ []) ⊎ ((form : List ℕ) × IsForm pointer form × LeavesSome appends leaves (chunks (form ∷ [])) encoding)

-- the sink fails for a chunk of it
abbrev pub FormSinkError : Pointer → Declining → ErrorKind → Type 0
FormSinkError pointer refuses kind = (form : List ℕ) × IsForm pointer form × ChunksError refuses (chunks (form ∷ [])) kind

-- why it is not written, except for the device's failure and a failed allocation: there is no such form, or
-- the sink fails for a chunk of it
abbrev pub WrittenFormError : Pointer → Declining → ErrorKind → Type 0
WrittenFormError pointer refuses kind = CanonicalFormError pointer kind ⊎ FormSinkError pointer refuses kind

-- What a call that writes the canonical form of this root does to its sink. `sink` is what is seen of the
-- sink (the members of the trait Write); `old` and `new` are the sink before the call and after it.
pub record WritesForm {S X : Type 0} (sink : Ghosts S) (old new : S) (pointer : Pointer) (result : Result X Error) : Type 0 where
  -- a plain sink gets the framed encoding of the form
  pub encoding : IsPlainSink sink.appends → OnOk result (IfKnown (sink.written old) (sink.written new) (Adds (IsCanonicalEncoding pointer)))
  -- where there is no form, the call fails with the reason, and the sink is as it was
  pub form_error : (kind : ErrorKind) → CanonicalFormError pointer kind → IsErrAnd result (λ error. error.kind ≡ kind) × (new ≡ old)
  -- every sink gets what the chunks of the form add
  pub writes : WritesTo sink old new (AppendsForm pointer sink.appends) (LeavesForm pointer sink.appends sink.leaves)
      (λ kind. (kind ≡ OutOfMemory) ⊎ WrittenFormError pointer sink.refuses kind) result
  -- a failure that isn't the sink's leaves the sink as it was
  pub untouched : FailsOr result (λ kind. FormSinkError pointer sink.refuses kind ⊎ (new ≡ old))
