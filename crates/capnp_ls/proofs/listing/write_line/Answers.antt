-- Each turn lists one more length; at the end the line has them all.
use Rattle.std.proofs.Common.{arith, rules, refl, [], ◌++◌, ◌+◌, ◌≡◌, ◌<◌, ◌∙◌, ap, append_assoc, sym, length, List, ℕ}
use Rattle.std.specs.Prelude.{decimal}
use Rattle.std.proofs.lemmas.List.{append-nil}
use Rattle.std.proofs.lemmas.Option.{slice_get_within}
use Rattle.capnp_ls.specs.Output.{spaced}
use Rattle.capnp_ls.proofs.LineListsSegmentLengthsLemmas.{ListsLengths-next, ListsLengths-whole, lengths_parts}
use Rattle.capnp_ls.proofs.listing.write_line.Goals as goal

pub overflow_add-id : goal.overflow_add-id
overflow_add-id c =
    let within : c.loop-words.id < length c.args.lengths.now = slice_get_within c.args.lengths.now c.loop-words.id c.in-Some.words (sym c.in-Some.ensures) in
    omega (arith, within, c.requires)

pub loop-words-smaller : goal.loop-words-smaller
loop-words-smaller c =
    let within : c.loop-words.id < length c.args.lengths.now = slice_get_within c.args.lengths.now c.loop-words.id c.in-Some.words (sym c.in-Some.ensures) in
    omega (arith, within)

pub loop-words-init : goal.loop-words-init
loop-words-init c = ([], sym (append-nil _), search rules)

pub loop-words-preserved : goal.loop-words-preserved
loop-words-preserved c =
    let listed = c.loop-words.invariant.0 in
    let words = c.in-Some.words in
    let longer : c.push_spaced-in-Some.new.line.items ≡ c.push_spaced-2.new.line.items ++ (listed ++ spaced words)
    = c.in_ok-push_spaced-3.ensures.ok ∙ ap (λ l. l ++ spaced words) c.loop-words.invariant.1
    ∙ append_assoc c.push_spaced-2.new.line.items listed (spaced words) in
    (listed ++ spaced words, longer, ListsLengths-next _ _ words _ _ c.loop-words.invariant.2 c.in-Some.ensures refl)

pub returns-clause-ok : goal.returns-clause-ok
returns-clause-ok c =
    let ns = c.args.lengths.now in
    let whole = ListsLengths-whole ns c.loop-words.id c.loop-words.invariant.0 c.loop-words.invariant.2 c.in_default.ensures in
    let first : c.push_decimal.new.line.items ≡ [] ++ decimal c.args.index = c.in_ok-push_decimal.ensures.ok ∙ ap (λ (l : List ℕ). l ++ decimal c.args.index) c.clear.ensures.items in
    let second = c.in_ok-push_spaced.ensures.ok ∙ ap (λ k. c.push_decimal.new.line.items ++ spaced k) c.segments_count.ensures in
    let third = c.in_ok-push_spaced-2.ensures.ok ∙ ap (λ k. c.push_spaced.new.line.items ++ spaced k) c.total_words.ensures in
    lengths_parts c.args.index ns _ _ _ _ _ c.loop-words.invariant.0 first second third c.loop-words.invariant.1 whole c.in_ok-push.ensures.items
