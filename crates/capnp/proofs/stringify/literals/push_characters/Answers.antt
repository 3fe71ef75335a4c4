-- Each character is shown after those before it.
use Rattle.std.proofs.Common.{arith, [], ◌++◌}
use Rattle.std.specs.Char.{encode_utf8}
use Rattle.std.proofs.lemmas.Iterator.{YieldsList-from_chars}
use Rattle.std.proofs.lemmas.Iterator.Consumers.{YieldsList-end}
use Rattle.std.proofs.lemmas.Result.{on_ok_weaker}
use Rattle.capnp.specs.Prelude.{none_shown, one_shown, escaped}
use Rattle.capnp.proofs.PrintedQuotationLemmas.{added_after_quotation, all_shown, closed, quotation_opened}
use Rattle.capnp.proofs.stringify.literals.push_characters.Goals as goal

pub loop-character-init : goal.loop-character-init
loop-character-init c = ([], quotation_opened _ _ _ c.in_ok-push.ensures.bytes (c.in_ok-push.ensures.ascii (omega arith)), none_shown)

pub loop-character-preserved : goal.loop-character-preserved
loop-character-preserved c =
    let before = c.loop-character.invariant in (
      before.0 ++ escaped c.in-Some.character c.escape_of.result,
      added_after_quotation _ _ _ _ _ before.1 c.in_ok-push_escape.ensures,
      one_shown _ _ _ _ before.2 c.escape_of.ensures,
    )

pub returns : goal.returns
returns c =
    let before = c.loop-character.invariant in
    let ended = YieldsList-end (YieldsList-from_chars c.args.shown.now c.utf8.shown cc) c.loop-character.yielded _ c.loop-character.yielded_by _ _ c.in-None.is c.next.ensures.steps in
    let all = all_shown _ _ before.0 ended.0 before.2 in
    on_ok_weaker c.push-2.result (λ is. (before.0, is, all))
    (closed c.push-2.result _ before.0 _ (encode_utf8 34) _ before.1 c.push-2.ensures.bytes (c.push-2.ensures.ascii (omega arith)))
