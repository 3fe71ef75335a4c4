-- The table's entry for the tag.
use Rattle.std.proofs.Common.{arith, ◌<◌, ◌∙◌, ap}
use Rattle.capnp_pack.proofs.tables.GroupSizeLemmas.{largest_end, end_at}
use Rattle.capnp_pack.proofs.sizes.largest_end.Goals as goal

pub returns-clause-zero : goal.returns-clause-zero
returns-clause-zero c = λ none.
    let low : c.args.tag < 256 = omega arith in
    end_at c.args.tag _ low ∙ ap largest_end none

pub returns-clause-full : goal.returns-clause-full
returns-clause-full c = λ full.
    let low : c.args.tag < 256 = omega arith in
    end_at c.args.tag _ low ∙ ap largest_end full
