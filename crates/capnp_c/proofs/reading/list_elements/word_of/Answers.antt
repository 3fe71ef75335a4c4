-- Eight bytes are a word.
use Rattle.std.proofs.Common.{◌≡◌, ◌+◌, ◌-◌, take, drop, length, ap, ◌∙◌, arith, length-take, length-drop}
use Rattle.std.specs.Prelude.{unwrap_or}
use Rattle.std.proofs.lemmas.List.{take-take}
use Rattle.capnp_layout.specs.Prelude.{number_of}
use Rattle.capnp_c.proofs.in_place.ListElementsInBytesLemmas.{word_of_eight}
use Rattle.capnp_c.proofs.reading.list_elements.word_of.Goals as goal

pub returns : goal.returns
returns c =
    let bytes = c.args.bytes.now in
    let at = c.args.at in
    let own = take (at + 8 - at) (drop at bytes) in
    let long : length own ≡ 8 = omega (arith, c.requires, length-take (at + 8 - at) (drop at bytes), length-drop at bytes) in
    c.unwrap_or.ensures ∙ ap (λ o. unwrap_or o 0) (c.word.ensures.value ∙ word_of_eight own long)
    ∙ ap (number_of 256) (take-take 8 (at + 8 - at) (drop at bytes) (omega arith))
