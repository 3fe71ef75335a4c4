-- A word is a pointer just after the data of an element.
use Rattle.std.proofs.Common.{◌≡◌, arith}
use Rattle.capnp_show.specs.Objects.{words_of_struct}
use Rattle.capnp_show.proofs.ElementContainingPointerWordLemmas.{element_is_past, element_is}
use Rattle.capnp_show.proofs.owners.role_in_element.Goals as goal
use Rattle.capnp_show.proofs.owners.role_in_element.Goals.{else-words-ne0-via-then-words-ne0+then-after_tag-words+else-after_tag-words-2, else-words-ne0-via-then-words-ne0+else-after_tag-words, else-words-ne0-via-else-words-ne0}

pub returns-then-after_tag-words-2 : goal.returns-then-after_tag-words-2
returns-then-after_tag-words-2 c =
    let words : c.words-words.result ≡ words_of_struct c.args.elements.size = omega (arith, c.words-words.ensures) in
    element_is_past c.args.elements.size c.args.elements.count c.args.after_tag _ words
    (record { some = omega arith; among = c.if-after_tag-words.true; after = c.if-after_tag-words-2.true })

pub returns-else-words-ne0 : goal.returns-else-words-ne0
returns-else-words-ne0 c = λ pointer.
    let words : c.words-words.result ≡ words_of_struct c.args.elements.size = omega (arith, c.words-words.ensures) in
    let past = element_is c.args.elements.size c.args.elements.count c.args.after_tag _ words pointer in
    let some = past.some in
    let among = past.among in
    let after = past.after in
    elim c.else-words-ne0.branch [
      | else-words-ne0-via-then-words-ne0+then-after_tag-words+else-after_tag-words-2 w ↦ absurd (omega arith)
      | else-words-ne0-via-then-words-ne0+else-after_tag-words w ↦ absurd (omega arith)
      | else-words-ne0-via-else-words-ne0 w ↦ absurd (omega arith)
    ]
