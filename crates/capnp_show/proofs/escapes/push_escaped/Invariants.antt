-- What comes before the rest is shown.
use Rattle.std.proofs.Common.{◌≡◌, List, ℕ, ◌++◌, length, string_bytes}
use Rattle.std.specs.Str.{chars}
use denote.Shadow.{shadow}
use denote.Text.{Utf8}
use Rattle.capnp_show.specs.Output.{AreJsonEscaped}
use Rattle.capnp_show.proofs.escapes.push_escaped.Given as goal

abbrev pub invariant-loop-plain : goal.invariant-loop-plain
invariant-loop-plain l =
    (done : List ℕ) × (bytes : List ℕ) × (string_bytes l.output ≡ string_bytes l.fn.output ++ bytes) × AreJsonEscaped done bytes × (chars l.shown ≡ done ++ chars l.rest) × shadow (Utf8 l.rest)

abbrev pub decreases-loop-plain : goal.decreases-loop-plain
decreases-loop-plain l = length l.rest
