-- A run ends before a character.
use Rattle.std.proofs.Common.{arith, ◌≡◌, ◌⊎◌, ⊎_elim, ℕ, ◌<◌, ◌≤◌, List, ◌++◌, length, sym, ap, subst, ◌∙◌, slice_index}
use Rattle.std.specs.Char.{encode_utf8}
use Rattle.std.specs.Str.{IsCharBoundary}
use Rattle.capnp_show.proofs.UnescapedRunLemmas.{cut_before}
use Rattle.capnp_show.proofs.runs.next_run.Goals as goal

pub returns-clause-rest : goal.returns-clause-rest
returns-clause-rest c =
    let shown = c.args.shown.now in
    let at = c.plain_length.result in
    let within : at ≤ length shown = subst (λ (l : List ℕ). at ≤ length l) c.as_bytes.ensures.value c.plain_length.ensures.within in
    let ends : at < length shown → (slice_index shown at < 128) ⊎ (slice_index shown at ≡ 194) =
    subst (λ (l : List ℕ). at < length l → (slice_index l at < 128) ⊎ (slice_index l at ≡ 194)) c.as_bytes.ensures.value c.plain_length.ensures.boundary in
    let boundary : IsCharBoundary shown at = (within, λ below high. ⊎_elim (λ low. absurd (omega arith)) (λ is. omega arith) (ends below)) in
    cut_before shown c.split_at.result.0.now c.split_at.result.1.now c.as_str.result.now at c.in_ok-character.character
    c.utf8.shown boundary c.split_at.ensures.front c.split_at.ensures.back
    (sym c.chars-characters.ensures.rest ∙ c.in_ok-character.ensures.steps.0 ∙ ap (λ (l : List ℕ). encode_utf8 c.in_ok-character.character ++ l) (sym c.as_str.ensures))
