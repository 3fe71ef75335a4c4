-- The elements of a list are in its own words.
use Rattle.std.proofs.Common.{◌≡◌, ◌+◌, ◌-◌, ◌*◌, ℕ, take, drop, ap, ◌∙◌, arith, length-take, length-drop}
use Rattle.capnp_layout.specs.Prelude.{words_of, code_of, width, words_for, elements}
use Rattle.capnp_layout.proofs.objects.NumberElementsInListWordsLemmas.{elements_within}
use Rattle.capnp_wire.proofs.object_content.words_at.Goals as goal

pub returns-clause-elements : goal.returns-clause-elements
returns-clause-elements c =
    let bytes = c.args.segment.now in
    let start = c.args.start in
    let code = code_of c.args.size in
    let long : 8 * start + 8 * c.words_of_list.result - 8 * start ≡ 8 * words_for c.args.count (width code) = omega (arith, c.words_of_list.ensures) in
    ap (λ (n : ℕ). elements (words_of (take n (drop (8 * start) bytes))) 0 code c.args.count) long
    ∙ elements_within bytes start code c.args.count c.requires

pub returns-clause-len : goal.returns-clause-len
returns-clause-len c =
    let bytes = c.args.segment.now in
    let start = c.args.start in
    omega (arith, c.requires, c.words_of_list.ensures, length-take (8 * start + 8 * c.words_of_list.result - 8 * start) (drop (8 * start) bytes), length-drop (8 * start) bytes)
