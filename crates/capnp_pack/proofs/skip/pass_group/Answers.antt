-- The table says how many bytes the group has before a run, and its last one of these how long that is.
use Rattle.std.proofs.Common.{rules, arith, ◌≡◌, ◌-◌, ◌<◌, ◌∷◌, drop, get_or}
use Rattle.capnp_pack.proofs.unpacking.SkippedGroupSizeLemmas.{group_passes, run_passes}
use Rattle.capnp_pack.proofs.skip.pass_group.Goals as goal

pub returns-then-tag-further-le255-clause-group : goal.returns-then-tag-further-le255-clause-group
returns-then-tag-further-le255-clause-group c =
    let shown = c.args.shown.now in
    let tag = get_or shown 0 0 in
    let head = c.group_bytes-head in
    let further = c.further_words-further in
    let parts : shown ≡ tag ∷ drop 1 shown = search rules in
    let low : tag < 256 = omega arith in
    let byte : get_or shown (head.result - 1) 0 < 256 = omega arith in
    group_passes tag head.result further.result c.args.most shown (drop 1 shown)
    (record {
      zero = head.ensures.zero;
      full = head.ensures.full;
      tagged = head.ensures.tagged;
      zeros = further.ensures.zeros;
      literal = further.ensures.literal;
      one = further.ensures.one;
    }) low byte parts (omega arith) (omega arith) (omega arith)

pub returns-clause-group : goal.returns-clause-group
returns-clause-group c =
    let shown = c.args.shown.now in
    let tag = get_or shown 0 0 in
    let head = c.group_bytes-head in
    let further = c.further_words-further in
    let parts : shown ≡ tag ∷ drop 1 shown = search rules in
    let low : tag < 256 = omega arith in
    let byte : get_or shown (head.result - 1) 0 < 256 = omega arith in
    run_passes tag head.result further.result c.args.most _ shown (drop 1 shown)
    (record {
      zero = head.ensures.zero;
      full = head.ensures.full;
      tagged = head.ensures.tagged;
      zeros = further.ensures.zeros;
      literal = further.ensures.literal;
      one = further.ensures.one;
    }) low byte parts (omega arith) (omega arith) (omega arith) (omega arith)
