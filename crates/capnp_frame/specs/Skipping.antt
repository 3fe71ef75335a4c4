-- What a call returns that skips a message and returns the lengths of its segments
-- (src/serialize/skipping.rt).
use Rattle.std.specs.Prelude.{◌≡◌, ℕ, ◌≤◌, List, length, drop, Option, Some, None, Result, Ok, Err, OnOk}
use Rattle.capnp_frame.specs.declared.error.Error.{Error}
use Rattle.capnp_frame.specs.declared.serialize.segment_table.Padding.{Padding}
use Rattle.capnp_frame.specs.declared.io.Read.{Ghosts}
use Rattle.capnp_frame.specs.Asking.{Asked, FailsOr}
use Rattle.capnp_frame.specs.Message.{lengths}
use Rattle.capnp_frame.specs.Requests.{MessageFound}
use Rattle.capnp_frame.specs.Source.{Giving, IfKnown, RequestError}

-- The result is a reader's, for which `Reads` holds, but with the lengths of a message in the message's
-- place.
abbrev pub SkipsMessage : (Result (Option (List (List ℕ))) Error → Type 0) → Result (Option (List ℕ)) Error → Type 0
SkipsMessage Reads (Ok (Some ns)) = (message : List (List ℕ)) × (lengths message ≡ ns) × Reads (Ok (Some message))
SkipsMessage Reads (Ok None) = Reads (Ok None)
SkipsMessage Reads (Err error) = Reads (Err error)

-- a message of these lengths is at the front
abbrev pub LengthsFound : Padding → Giving → List ℕ → List ℕ → List ℕ → Type 0
LengthsFound rule gives ns raw rest = (message : List (List ℕ)) × (lengths message ≡ ns) × MessageFound rule gives message raw rest

-- the first n bytes are dropped
abbrev pub Drops : ℕ → List ℕ → List ℕ → Type 0
Drops n raw rest = (n ≤ length raw) × (rest ≡ drop n raw)

-- What is kept by a step that skips n bytes of a source.
pub record SkipsBytes {S X : Type 0} (source : Ghosts S) (old new : S) (n : ℕ) (result : Result X Error) : Type 0 where
  pub dropped : OnOk result (IfKnown (source.unread old) (source.unread new) (Drops n))
  -- a failure is the device's, or the source's for a request of as many bytes
  pub errors : FailsOr result (RequestError source.refuses n (source.unread old))
  pub asked : Asked source.unread source.failures source.same old new result
