-- What callers return of bytes and encodings in memory.
use Rattle.std.specs.Prelude.{◌≡◌, ◌⊎◌, ℕ, List, Result, IfOk, IfErr, slice_index}
use Rattle.capnp_frame.specs.declared.error.Error.{Error}
use Rattle.capnp_frame.specs.declared.error.ErrorKind.TheVariants.{OutOfMemory}
use Rattle.capnp_frame.specs.declared.serialize.segment_table.Padding.TheVariants.{Zero}
use Rattle.capnp_frame.specs.Prelude.{RulesError, no_alloc_rules, default_limit}
use Rattle.capnp_wire.specs.Prelude.{default_root, IsCanonicalForm, Pointer, HasData, Reads}
use Rattle.capnp_message.specs.Canonical.{HasForm, CanonicalFormError}
use Rattle.capnp.specs.declared.streams.Format.TheVariants.{Packed}
use Rattle.capnp.specs.Prelude.{BeginsFramed, FoundNext}

-- What is returned of the canonical words of the message that these bytes begin with; `words` is how they are seen.
pub record ReturnsCanonical {T : Type 0} (bytes : List ℕ) (words : T → List ℕ) (result : Result T Error) : Type 0 where
  -- where they are returned, a message is there, and they are its canonical form
  pub is_found : IfOk result (λ form. (message : List (List ℕ)) × (rest : List ℕ) × BeginsFramed Zero default_limit message bytes rest
      × IsCanonicalForm (default_root message) (words form))
  -- there is one such message
  pub form : (message : List (List ℕ)) (rest : List ℕ) → BeginsFramed Zero default_limit message bytes rest
      → IfOk result (λ form. IsCanonicalForm (default_root message) (words form))
  -- wherever there are such words they are returned, unless the call is out of memory
  pub found : (message : List (List ℕ)) (rest : List ℕ) → BeginsFramed Zero default_limit message bytes rest → HasForm (default_root message)
      → IfErr result (λ error. error.kind ≡ OutOfMemory)
  -- else it fails as the reader does, which takes no memory, with the reason why the message has no form, or with `OutOfMemory`
  pub errors : IfErr result (λ error. RulesError (no_alloc_rules Zero default_limit) error.kind bytes
      ⊎ ((message : List (List ℕ)) × (rest : List ℕ) × BeginsFramed Zero default_limit message bytes rest
      × (CanonicalFormError (default_root message) error.kind ⊎ (error.kind ≡ OutOfMemory))))

-- these are the first two data words of the struct that a pointer points to, 0 past its last one
abbrev pub AreFirstWords : Pointer → ℕ × ℕ → Type 0
AreFirstWords pointer pair = (words : List ℕ) × Reads pointer (λ form. HasData form words) × (pair ≡ (slice_index words 0, slice_index words 1))

-- and the pointer is the root of the packed message at the front of these bytes
abbrev pub ShowsPackedStruct : List ℕ → ℕ × ℕ → Type 0
ShowsPackedStruct encoding pair = (message : List (List ℕ)) × (rest : List ℕ) × FoundNext Zero Packed default_limit message encoding rest
    × AreFirstWords (default_root message) pair
