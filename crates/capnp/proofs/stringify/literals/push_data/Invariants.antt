-- The bytes before the next one are shown, after a quotation mark.
use Rattle.std.proofs.Common.{◌≡◌, List, ℕ, ◌∷◌, ◌++◌, string_bytes, take}
use Rattle.capnp.specs.Prelude.{AreEscaped, IsByteEscape}
use Rattle.capnp.proofs.stringify.literals.push_data.Given as goal

abbrev pub invariant-loop-byte : goal.invariant-loop-byte
invariant-loop-byte l =
    (shown : List ℕ) × (string_bytes l.output ≡ string_bytes l.fn.output ++ (34 ∷ shown)) × AreEscaped IsByteEscape (take l.byte-index l.bytes) shown
