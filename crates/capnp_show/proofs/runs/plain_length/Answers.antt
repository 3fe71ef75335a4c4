-- One more plain byte.
use Rattle.std.proofs.Common.{rules, get_or}
use Rattle.std.proofs.lemmas.List.Elements.{All-more}
use Rattle.capnp_show.specs.Plain.{IsPlainByte}
use Rattle.capnp_show.proofs.runs.plain_length.Goals as goal

pub loop-index-preserved : goal.loop-index-preserved
loop-index-preserved c =
    let plain : IsPlainByte (get_or c.args.bytes.now c.loop-index.index 0) = search rules in
    All-more IsPlainByte c.args.bytes.now c.loop-index.index 0 c.loop-index-test.true c.loop-index.invariant plain
