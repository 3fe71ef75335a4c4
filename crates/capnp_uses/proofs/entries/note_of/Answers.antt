-- The note is what the pointer of the element points to.
use Rattle.std.proofs.Common.{◌∙◌, ap, subst, MatchResult}
use Rattle.capnp_wire.specs.Prelude.{IsText, Reads, ViewError, TextFormError, pointer_in}
use Rattle.capnp_uses.proofs.entries.note_of.Goals as goal

pub returns : goal.returns
returns g c =
    subst (λ pointer. MatchResult c.get_as.result (λ note. Reads pointer (λ form. IsText form note.bytes.now)) (λ error. ViewError pointer TextFormError error.kind))
    (c.get_pointer.ensures ∙ ap (λ fields. pointer_in fields 0) c.get.ensures) c.get_as.ensures.returned
