-- What reading the root of a message does, and a message that is read without limits (src/reader.rt,
-- src/typed_reader.rt, src/builder.rt, src/typed_builder.rt).
use Rattle.std.specs.Prelude.{◌≡◌, ◌≢◌, ◌⊎◌, ◌-◌, ◌^◌, pos, None, Result, IfErr, IsOk, OnOk, MatchResult}
use Rattle.std.specs.Result.{IsErrAnd}
use Rattle.capnp_frame.specs.declared.error.Error.{Error}
use Rattle.capnp_frame.specs.declared.error.ErrorKind.{ErrorKind}
use Rattle.capnp_frame.specs.declared.error.ErrorKind.TheVariants.{ReadLimitExceeded}
use Rattle.capnp_layout.specs.Prelude.{root, NoWord}
use Rattle.capnp_wire.specs.Prelude.{Pointer, IsInvalidPointer, MeetsLimit}
use Rattle.capnp_message.specs.Seen.{ReadMessage, HasRoot}

-- What getting the root as a view does: the view shows what is there, or the call fails because there is no
-- word for the root, or with an error that the view states.
pub record ReadsRoot {V : Type 0} (pointer : Pointer) (shows : V → Type 0) (accepts : Type 0)
    (fails form_error : ErrorKind → Type 0) (result : Result V Error) : Type 0 where
  pub returned : MatchResult result shows (λ error. NoWord pointer.message root error.kind ⊎ fails error.kind)
  pub has_root : OnOk result (HasRoot pointer)
  -- without a limit there is a view of a root that the view accepts, and no error of the limit
  pub found : pointer.limit ≡ None → HasRoot pointer → accepts → IsOk result
  pub unlimited : pointer.limit ≡ None → IfErr result (λ error. error.kind ≢ ReadLimitExceeded)
  -- where no object is there, this is the error, whatever was read before, unless the view accepts the
  -- pointer itself
  pub exact : (kind : ErrorKind) → IsInvalidPointer pointer kind → (accepts → ⊥) → IsErrAnd result (λ error. error.kind ≡ kind)
  -- the error where an object is there that the view rejects
  pub form_errors : (kind : ErrorKind) → HasRoot pointer → form_error kind
      → IsErrAnd result (λ error. (error.kind ≡ kind) ⊎ MeetsLimit pointer error.kind)
  -- the error where there is no word for the root
  pub nowhere : (kind : ErrorKind) → NoWord pointer.message root kind → IsErrAnd result (λ error. error.kind ≡ kind)

-- These segments are read without a traversal limit, and with objects nested up to 2 ^ 31 - 1 deep.
pub record IsReadUnlimited {S : Type 0} (segments_are : S) (message : ReadMessage S) : Type 0 where
  pub segments : message.segments ≡ segments_are
  pub unlimited : message.options.traversal_limit_in_words ≡ None
  pub nesting : message.options.nesting_limit ≡ pos (2 ^ 31 - 1)
