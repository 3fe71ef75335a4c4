-- A slice whose table was read: the frame of the message is at its front, or its segments are cut. Where the table
-- was not read, the error is a line of the slices' table, or OutOfMemory for several segments.
use Rattle.std.proofs.Common.{◌≡◌, ℕ, ◌+◌, ◌-◌, ◌*◌, ◌/◌, ◌%◌, ◌<◌, ◌≤◌, ◌^◌, Option, Some, None, ◌⊎◌, inl, inr, List, length, take, drop, sym, ap, ◌∙◌, subst, arith}
use Rattle.std.proofs.lemmas.List.{take_rest}
use Rattle.std.specs.Prelude.{sum}
use Rattle.capnp_frame.specs.declared.error.ErrorKind.{ErrorKind}
use Rattle.capnp_frame.specs.declared.error.ErrorKind.TheVariants.{DeviceFailed, OutOfMemory, MessageEndsPrematurely}
use Rattle.capnp_frame.specs.Prelude.{table_size, KeepsPadding, cut, KeepsLimit, AreWithin, IsWithin, Splits, RunsShort, IfKnown, Fails, TableFound, TakesForLengths, TableError, HasFrame, number, declared_lengths, declared_padding, declared_segments, HoldsMessage, by_words, AcceptsSeveral, FlatError}
use Rattle.capnp_frame.specs.declared.serialize.segment_table.Padding.{Padding}
use Rattle.capnp_frame.proofs.sources.JoinedCallsAdvanceSourceLemmas.{never_fails}
use Rattle.capnp_frame.proofs.encodings.DeclaredMessageIsFrontFrameLemmas.{found_from_holds, within_declared}
use Rattle.capnp_frame.proofs.slices.FlatErrorLemmas.{declared_by_requests, several_accepted, words_error, past_lengths, cut_segments}

-- the frame at the front

pub begins_from_holds : (rule : Padding) (bytes : List ℕ) (count : ℕ) (segments : List (List ℕ)) → HoldsMessage bytes count
    → KeepsPadding rule (declared_padding count bytes) → segments ≡ declared_segments count bytes → (rest : List ℕ) × HasFrame rule bytes segments rest
begins_from_holds rule bytes count segments holds kept are =
    let left = drop (table_size count + 8 * sum (declared_lengths count bytes)) bytes in
    (left, subst (λ l. HasFrame rule bytes l left) (sym are) (found_from_holds rule bytes count holds kept).begins)

-- a slice that moved past it
pub moved_past_table : (bytes : List ℕ) (count size total : ℕ) → size ≡ table_size count → total ≡ 8 * sum (declared_lengths count bytes)
    → take (length bytes - (size + total)) (drop (size + total) bytes) ≡ drop (table_size count + 8 * sum (declared_lengths count bytes)) bytes
moved_past_table bytes count size total table_is total_is =
    let place : size + total ≡ table_size count + 8 * sum (declared_lengths count bytes) = omega arith in
    take_rest bytes (size + total) ∙ ap (λ k. drop k bytes) place

pub within_from_holds : (bytes : List ℕ) (count : ℕ) (segments : List (List ℕ)) (limit : Option ℕ) → HoldsMessage bytes count
    → segments ≡ declared_segments count bytes → KeepsLimit (declared_lengths count bytes) limit → IsWithin segments limit
within_from_holds bytes count segments limit holds are keeps = subst (λ l. IsWithin l limit) (sym are) (within_declared bytes count limit holds keeps)

-- parts after a table

pub parts_are : (bytes ns : List ℕ) (size : ℕ) (segments : List (List ℕ)) → declared_lengths (length ns) bytes ≡ ns
    → size ≡ table_size (length ns) → segments ≡ cut ns (drop size bytes) → segments ≡ declared_segments (length ns) bytes
parts_are bytes ns size segments declared table_is are = are ∙ ap (λ l. cut l (drop size bytes)) (sym declared) ∙ ap (λ k. cut (declared_lengths (length ns) bytes) (drop k bytes)) table_is

pub keeps_declared : (bytes ns : List ℕ) (limit : Option ℕ) → declared_lengths (length ns) bytes ≡ ns → AreWithin ns limit → KeepsLimit (declared_lengths (length ns) bytes) limit
keeps_declared bytes ns limit declared within = subst (λ l. KeepsLimit l limit) (sym declared) within.size

-- the stream reader's table over a slice

pub slice_error : (empty : ErrorKind) (rule : Padding) (limit : Option ℕ) (kind : ErrorKind) (bytes left : List ℕ)
    → (kind ≡ DeviceFailed → Fails 0 0) → (kind ≡ DeviceFailed)
    ⊎ ((kind ≡ OutOfMemory) × IfKnown (Some bytes) (Some left) (TakesForLengths 1 Splits))
    ⊎ IfKnown (Some bytes) (Some left) (TableError rule Splits RunsShort limit None kind)
    → ((kind ≡ OutOfMemory) × AcceptsSeveral (by_words empty) bytes) ⊎ FlatError (by_words empty) rule limit kind bytes
slice_error empty rule limit kind bytes left failed (inl device) = absurd (never_fails kind failed device)
slice_error empty rule limit kind bytes left failed (inr (inl memory)) = inl (memory.0, several_accepted empty bytes left memory.1)
slice_error empty rule limit kind bytes left failed (inr (inr met)) = inr (words_error empty rule limit kind bytes left met)

pub slice_holds : (rule : Padding) (bytes ns left : List ℕ) (limit : Option ℕ) (total : ℕ) → TableFound rule Splits ns bytes left
    → AreWithin ns limit → total ≡ sum ns → 8 * total ≤ length left → HoldsMessage bytes (length ns)
    × (declared_lengths (length ns) bytes ≡ ns) × KeepsPadding rule (declared_padding (length ns) bytes)
slice_holds rule bytes ns left limit total is_found within is room =
    let declared = declared_by_requests rule bytes ns left is_found within.few in
    let long = declared.1 in
    let sums : sum (declared_lengths (length ns) bytes) ≡ sum ns = ap sum declared.0.lengths in
    (record { table = declared.0.tells; room = omega arith }, declared.0.lengths, declared.0.padding)

pub slice_cut : (empty : ErrorKind) (rule : Padding) (bytes ns left : List ℕ) (limit : Option ℕ) (total : ℕ)
    → TableFound rule Splits ns bytes left → AreWithin ns limit → total ≡ sum ns → length left < 8 * total
    → FlatError (by_words empty) rule limit (MessageEndsPrematurely total (length left / 8)) bytes
slice_cut empty rule bytes ns left limit total is_found within is short =
    let declared = declared_by_requests rule bytes ns left is_found within.few in
    let count = length ns in
    let long = declared.1 in
    let some = within.some in
    let few = within.few in
    let number_is = declared.0.count in
    let counted : (number bytes + 1) % 2 ^ 32 ≡ count = small (number bytes) count number_is few in
    let following : (length bytes - table_size count) / 8 ≡ length left / 8 = omega arith in
    let sums : total ≡ sum (declared_lengths count bytes) = is ∙ ap sum (sym declared.0.lengths) in
    subst (λ k. FlatError (by_words empty) rule limit (MessageEndsPrematurely total k) bytes) following
    (past_lengths (by_words empty) rule limit (MessageEndsPrematurely total ((length bytes - table_size count) / 8)) bytes count (omega arith) (omega arith) counted some few (omega arith)
    (cut_segments (by_words empty) rule limit bytes count total (keeps_declared bytes ns limit declared.0.lengths within) declared.0.padding (omega arith) sums (omega arith)))
  where
    small : (last count : ℕ) → last + 1 ≡ count → count < 512 → (last + 1) % 2 ^ 32 ≡ count
    small last count is few = omega arith

-- descriptions
