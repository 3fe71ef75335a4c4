-- What comes before the rest is in the page.
use Rattle.std.proofs.Common.{◌≡◌, List, ℕ, ◌++◌, length, string_bytes}
use Rattle.std.specs.Str.{chars}
use denote.Shadow.{shadow}
use denote.Text.{Utf8}
use Rattle.capnp_show.specs.Output.{AreMarked}
use Rattle.capnp_show.proofs.markup.push_markup.Given as goal

abbrev pub invariant-loop-plain : goal.invariant-loop-plain
invariant-loop-plain l =
    (done : List ℕ) × (bytes : List ℕ) × (string_bytes l.markup ≡ string_bytes l.fn.markup ++ bytes) × AreMarked done bytes × (chars l.shown ≡ done ++ chars l.rest) × shadow (Utf8 l.rest)

abbrev pub decreases-loop-plain : goal.decreases-loop-plain
decreases-loop-plain l = length l.rest
