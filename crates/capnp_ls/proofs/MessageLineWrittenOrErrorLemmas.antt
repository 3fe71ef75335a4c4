-- The line of a message is written, as a line of its segments' lengths is, or a part of it is left and the call fails.
use Rattle.std.proofs.Common.{◌≡◌, ◌⊎◌, inl, inr, ℕ, ◌^◌, ◌<◌, Option, List, [], length, ap, subst, arith}
use Rattle.capnp.specs.Prelude.{Appending, Leaving, Declining, Adds, ErrorKind, DeviceFailed, OutOfMemory, Padding, IfKnown, IsWithin, lengths, WritingError, FailsWithinOr}
use Rattle.capnp.specs.declared.streams.Format.{Format}
use Rattle.capnp_ls.specs.declared.command.Command.TheVariants.{Listing}
use Rattle.capnp_ls.specs.Output.{line, line_of, PrintedErrors}
use Rattle.capnp_ls.proofs.LineListsSegmentLengthsLemmas.{line_declared}

pub few_lengths : (message : List (List ℕ)) (ns : List ℕ) (limit : Option ℕ) → lengths message ≡ ns → IsWithin message limit → length ns < 2 ^ 32
few_lengths message ns limit same within = let few = within.few in omega (arith, few, ap length same)

-- What is printed of a message of these lengths, and why it isn't.

pub line_written : (appends : Appending) (index : ℕ) (message : List (List ℕ)) (ns : List ℕ) (a b : Option (List ℕ)) → lengths message ≡ ns
    → IfKnown a b (Adds (appends (line_of index ns))) → IfKnown a b (Adds (appends (line index message)))
line_written appends index message ns a b same written = subst (λ l. IfKnown a b (Adds (appends l))) (line_declared index message ns same) written

pub message_line_left : (leaves : Leaving) (index : ℕ) (message : List (List ℕ)) (ns : List ℕ) (a b : Option (List ℕ)) → lengths message ≡ ns
    → IfKnown a b (Adds (λ part. (part ≡ []) ⊎ leaves (line_of index ns) part)) → IfKnown a b (Adds (λ part. (part ≡ []) ⊎ leaves (line index message) part))
message_line_left leaves index message ns a b same left = subst (λ l. IfKnown a b (Adds (λ part. (part ≡ []) ⊎ leaves l part))) (line_declared index message ns same) left

pub line_error : (appends : Appending) (leaves : Leaving) (refuses : Declining) (format : Format) (padding : Padding) (index : ℕ) (message : List (List ℕ)) (ns : List ℕ) (kind : ErrorKind)
    → lengths message ≡ ns → (kind ≡ DeviceFailed) ⊎ (kind ≡ OutOfMemory) ⊎ refuses (line_of index ns) kind
    → WritingError (PrintedErrors (Listing format padding) appends leaves refuses) index message kind
line_error appends leaves refuses format padding index message ns kind same (inl device) = inl device
line_error appends leaves refuses format padding index message ns kind same (inr (inl memory)) = inr (inl (memory, tt))
line_error appends leaves refuses format padding index message ns kind same (inr (inr errors)) = inr (inr (inr (subst (λ l. refuses l kind) (line_declared index message ns same) errors)))

pub line_untouched : (appends : Appending) (leaves : Leaving) (refuses : Declining) (format : Format) (padding : Padding) (index : ℕ) (message : List (List ℕ)) (ns : List ℕ) (kind : ErrorKind) (Same : Type 0)
    → lengths message ≡ ns → (kind ≡ DeviceFailed) ⊎ refuses (line_of index ns) kind ⊎ Same
    → FailsWithinOr (PrintedErrors (Listing format padding) appends leaves refuses) index message Same kind
line_untouched appends leaves refuses format padding index message ns kind Same same (inl device) = inl device
line_untouched appends leaves refuses format padding index message ns kind Same same (inr (inl errors)) = inr (inl (subst (λ l. refuses l kind) (line_declared index message ns same) errors))
line_untouched appends leaves refuses format padding index message ns kind Same same (inr (inr kept)) = inr (inr kept)
