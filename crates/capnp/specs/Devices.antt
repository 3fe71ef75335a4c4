-- What is known of the bytes after a device's buffer.
use Rattle.std.specs.Prelude.{◌≡◌, ◌≢◌, ℕ, Bool, true, false, List, [], Option, Some, None, Result, IsOk, IfOk, IfErr, OnOk}
use Rattle.std.specs.IoError.{error_kind}
use Rattle.std.specs.declared.io.traits.Read.{Ghosts}
use Rattle.std.specs.declared.io.Error.{Error as DeviceError}
use Rattle.std.specs.declared.io.ErrorKind.TheVariants.{Interrupted, OutOfMemory as IsMemoryError}
use Rattle.std.specs.Io.Buffered.{reader_buffer, reader_remaining, writer_buffer, writer_capacity, writer_contents}
use Rattle.std.specs.Io.KnownBytes.{Keeps}
use Rattle.capnp_frame.specs.declared.error.Error.{Error}
use Rattle.capnp_frame.specs.declared.error.ErrorKind.TheVariants.{OutOfMemory}
use Rattle.capnp.specs.declared.devices.input.Input.{Input}
use Rattle.capnp.specs.declared.devices.output.Output.{Output}

-- the bytes that are read ahead and not yet consumed
abbrev pub read_ahead : {R : Type 0} {read : Ghosts R} → Input R read → List ℕ
read_ahead input = reader_buffer input.buffered

-- these, and then the device's bytes, where those are known
abbrev pub coming : {R : Type 0} {read : Ghosts R} → (R → Option (List ℕ)) → Input R read → Option (List ℕ)
coming remaining input = reader_remaining (λ retried. remaining retried.device) input.buffered

-- bytes that count as known only where the flag says so
abbrev pub if_known : Bool → Option (List ℕ) → Option (List ℕ)
if_known true bytes = bytes
if_known false bytes = None

-- the unread bytes of a device: what comes of one that is made of known bytes
abbrev pub unread_of : {R : Type 0} {read : Ghosts R} → (R → Option (List ℕ)) → Input R read → Option (List ℕ)
unread_of remaining input = if_known input.known (coming remaining input)

-- the bytes that were taken and not yet written
abbrev pub pending : {W : Type 0} → Output W → List ℕ
pending output = writer_buffer output.buffered

-- the device's bytes, where those are known, and then these
abbrev pub taken_so_far : {W : Type 0} → (W → Option (List ℕ)) → Output W → Option (List ℕ)
taken_so_far contents output = writer_contents (λ retried. contents retried.device) output.buffered

-- What each call of a device that keeps its last error does to that error: `old` before the call and `new`
-- after it.
pub record KeepsDeviceError {X : Type 0} (old new : Option DeviceError) (result : Result X DeviceError) : Type 0 where
  -- the error of a call that fails is kept, except for an interruption
  pub noted : IfErr result (λ error. error_kind error ≢ Interrupted → new ≡ Some error)
  pub interrupted : IfErr result (λ error. error_kind error ≡ Interrupted → new ≡ old)
  pub kept : OnOk result (new ≡ old)

-- What each call that makes a source of a device returns: its bytes are the device's, as `bytes` says.
pub record OpensInput {R : Type 0} {read : Ghosts R} (bytes : Input R read → Type 0) (result : Result (Input R read) Error) : Type 0 where
  pub bytes_are : IfOk result bytes
  -- nothing is read ahead, and no failure is counted yet
  pub ahead : IfOk result (λ input. read_ahead input ≡ [])
  pub failures : IfOk result (λ input. input.failures.count ≡ 0)
  -- it fails only when out of memory for the buffer
  pub memory : IfErr result (λ error. error.kind ≡ OutOfMemory)

-- What a call that makes a sink of a device returns, with a buffer of `capacity` bytes.
pub record OpensOutput {W : Type 0} (contents : W → Option (List ℕ)) (device : W) (capacity : ℕ) (result : Result (Output W) Error) : Type 0 where
  pub taken : IfOk result (λ output. Keeps (contents device) (taken_so_far contents output))
  -- nothing is pending, and no failure is counted yet
  pub empty : IfOk result (λ output. pending output ≡ [])
  pub buffer : IfOk result (λ output. writer_capacity output.buffered ≡ capacity)
  pub failures : IfOk result (λ output. output.failures.count ≡ 0)
  -- it fails only when out of memory for the buffer, and one of 0 bytes takes none
  pub memory : IfErr result (λ error. error.kind ≡ OutOfMemory)
  pub unbuffered : capacity ≡ 0 → IsOk result

-- the device's failure is that an allocation failed
abbrev pub IsOutOfMemory : DeviceError → Type 0
IsOutOfMemory error = error_kind error ≡ IsMemoryError
