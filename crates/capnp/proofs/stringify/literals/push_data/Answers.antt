-- Each byte is shown after those before it.
use Rattle.std.proofs.Common.{arith, [], ◌++◌}
use Rattle.std.proofs.lemmas.List.{take_more}
use Rattle.capnp.specs.Prelude.{none_shown, one_shown, escaped}
use Rattle.capnp.proofs.PrintedQuotationLemmas.{added_after_quotation, quotation_opened}
use Rattle.capnp.proofs.stringify.literals.push_data.Goals as goal

pub loop-byte-init : goal.loop-byte-init
loop-byte-init c = ([], quotation_opened _ _ _ c.in_ok-push.ensures.bytes (c.in_ok-push.ensures.ascii (omega arith)), none_shown)

pub loop-byte-preserved : goal.loop-byte-preserved
loop-byte-preserved c =
    let before = c.loop-byte.invariant in (
      before.0 ++ escaped _ c.escape_of_byte.result,
      added_after_quotation _ _ _ _ _ before.1 c.in_ok-push_escape.ensures,
      rw (take_more c.args.bytes.now c.loop-byte.byte-index 0 c.loop-byte-test.true) (one_shown _ _ _ _ before.2 c.escape_of_byte.ensures),
    )
