-- The characters before the next one are shown, after a quotation mark.
use Rattle.std.proofs.Common.{◌≡◌, List, ℕ, ◌∷◌, ◌++◌, string_bytes}
use Rattle.capnp.specs.Prelude.{AreEscaped, IsEscapeOf}
use Rattle.capnp.proofs.stringify.literals.push_characters.Given as goal

abbrev pub invariant-loop-character : goal.invariant-loop-character
invariant-loop-character l =
    (shown : List ℕ) × (string_bytes l.output ≡ string_bytes l.fn.output ++ (34 ∷ shown)) × AreEscaped IsEscapeOf l.yielded shown
