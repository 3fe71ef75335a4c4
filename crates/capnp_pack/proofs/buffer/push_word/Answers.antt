-- The bytes that aren't zero are after the tag, or a zero.
use Rattle.std.proofs.Common.{rules, arith, ◌≡◌, [], ◌∷◌, ◌++◌, ◌∙◌, ap, take, length, append_assoc}
use lib.Count.{ones, ones-le}
use Rattle.capnp_pack.specs.Prelude.{nonzero}
use Rattle.capnp_pack.proofs.tables.StoredLanesPackOrSpreadLemmas.{stored, stored_zero}
use Rattle.capnp_pack.proofs.buffer.push_word.Goals as goal

pub returns-clause-word : goal.returns-clause-word
returns-clause-word c =
    let count = ones c.args.tag in
    let front = c.nonzero_front-front.result in
    let eight : length front ≡ 8 = search rules in
    stored c.push-at.result count c.push-at.new.bytes front c.push-at.array_long eight (omega arith) c.nonzero_front-front.ensures.few
    ∙ ap (λ l. l ++ take count front) c.push-at.ensures.added
    ∙ ap (λ l. (take c.args.used c.args.bytes.now ++ c.args.tag ∷ []) ++ l) c.nonzero_front-front.ensures.front
    ∙ append_assoc (take c.args.used c.args.bytes.now) (c.args.tag ∷ []) (nonzero c.args.word.now)

pub returns-clause-zero : goal.returns-clause-zero
returns-clause-zero c none =
    let count = ones c.args.tag in
    let front = c.nonzero_front-front.result in
    let eight : length front ≡ 8 = search rules in
    let no : count ≡ 0 = omega (arith, ones-le 0 c.args.tag (omega (arith, none))) in
    stored_zero c.push-at.result count c.push-at.new.bytes front c.push-at.array_long eight (omega arith) no (c.nonzero_front-front.ensures.zero none)
