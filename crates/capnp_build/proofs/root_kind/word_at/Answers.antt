-- A word of some bytes, and 0 past the last one.
use Rattle.std.proofs.Common.{ℕ, Option, ◌∙◌, ap}
use Rattle.std.specs.Option.{unwrap_or}
use Rattle.std.proofs.lemmas.Option.{unwrap_or-slice_get}
use Rattle.capnp_layout.specs.Prelude.{words_of}
use Rattle.capnp_build.proofs.root_kind.word_at.Goals as goal

pub returns : goal.returns
returns c =
    c.unwrap_or.ensures ∙ ap (λ (found : Option ℕ). unwrap_or found 0) c.word.ensures.value
    ∙ unwrap_or-slice_get (words_of c.args.bytes.now) c.args.index 0
