-- Logs of packed records (src/record_log.rt).
use Rattle.std.specs.Prelude.{◌≡◌, ◌⊎◌, ◌≤◌, ◌<◌, ◌++◌, ◌∷◌, ℕ, List, [], length, drop, Option, None, Result, OnOk, OnErr, IfErr}
use Rattle.std.specs.List.{AllByRecursion}
use Rattle.capnp_frame.specs.declared.error.Error.{Error}
use Rattle.capnp_frame.specs.declared.error.ErrorKind.TheVariants.{OutOfMemory}
use Rattle.capnp_frame.specs.declared.serialize.segment_table.Padding.TheVariants.{Zero}
use Rattle.capnp_frame.specs.Prelude.{KeepsLimit, lengths, Adds, KeepsCount, IsWritable, IsWithinSegmentLimit, SegmentCountError}
use Rattle.capnp.specs.declared.streams.Format.TheVariants.{Packed}
use Rattle.capnp.specs.Reading.{kind_of, IsMemoryError, IsCut}
use Rattle.capnp.specs.Streams.{EndsBy}
use Rattle.capnp.specs.Written.{IsEncodingOf, IsPackedEncodingOf, AppendsEach}

-- what was appended of these records, none of more segments than a writer takes, each within the limit of words
pub record IsLog (limit : Option ℕ) (records : List (List (List ℕ))) (log : List ℕ) : Type 0 where
  pub writable : AllByRecursion IsWritable records
  pub few : AllByRecursion IsWithinSegmentLimit records
  pub size : AllByRecursion (λ record_is. KeepsLimit (lengths record_is) limit) records
  pub appended : AppendsEach (IsEncodingOf Packed) records log

-- What appending a record does to a log: `old` before the call and `new` after it.
pub record AppendsRecord {X : Type 0} (message : List (List ℕ)) (old new : List ℕ) (result : Result X Error) : Type 0 where
  -- a log of records becomes one with this record after them
  pub appended : (limit : Option ℕ) (records : List (List (List ℕ))) → IsLog limit records old → KeepsLimit (lengths message) limit
      → OnOk result (IsLog limit (records ++ message ∷ []) new)
  -- what was there before stays, and the record's packed encoding follows it
  pub added : OnOk result (Adds (IsPackedEncodingOf message) old new)
  -- a call that fails leaves the log as it was
  pub unchanged : OnErr result (new ≡ old)
  -- it fails by the number of segments exactly where there are more than a reader accepts, and else only when
  -- out of memory
  pub count : KeepsCount message result
  pub errors : IfErr result (λ error. SegmentCountError message error.kind ⊎ (error.kind ≡ OutOfMemory))

-- The log is cut within the record that follows these, one that a reader accepts: `whole` is the
-- records before it, and some bytes of it are there, but not all.
pub record IsCutLog (limit : Option ℕ) (records : List (List (List ℕ))) (whole log : List ℕ) : Type 0 where
  pub before : IsLog limit records whole
  pub next : List (List ℕ)
  pub writable : IsWritable next
  pub few : IsWithinSegmentLimit next
  pub size : KeepsLimit (lengths next) limit
  pub part : List ℕ
  pub missing : List ℕ
  pub packed : IsPackedEncodingOf next (part ++ missing)
  pub begun : 0 < length part
  pub some : 0 < length missing
  pub spelled : log ≡ whole ++ part

-- What is read of a log.
pub record ReadsLog (limit : Option ℕ) (log : List ℕ) (messages : List (List (List ℕ))) (end : ℕ) (reason : Option Error) : Type 0 where
  pub within : end ≤ length log
  -- the records that were appended are read back, in order, unless an allocation failed
  pub back : (records : List (List (List ℕ))) → IsLog limit records log
      → IsMemoryError reason ⊎ (messages ≡ records) × (reason ≡ None) × (end ≡ length log)
  -- where the log is cut within a record, those before it are read, and `end` is where they end
  pub cut : (records : List (List (List ℕ))) (whole part missing : List ℕ) (next : List (List ℕ)) → IsLog limit records whole
      → IsWritable next → IsPackedEncodingOf next (part ++ missing) → 0 < length missing → log ≡ whole ++ part
      → IsMemoryError reason ⊎ (messages ≡ records) × (end ≡ length whole)
  -- the reason why no further record was read is right
  pub ends : IsMemoryError reason ⊎ EndsBy Zero Packed limit (kind_of reason) (drop end log)
  -- and where a record is cut that a reader accepts, the reason is a kind that says so
  pub reported : (records : List (List (List ℕ))) (whole : List ℕ) → IsCutLog limit records whole log → IsMemoryError reason ⊎ IsCut reason
