-- The table's entry for the tag.
use Rattle.std.proofs.Common.{arith, ◌≤◌, ◌<◌, ◌∙◌, sym, subst}
use Rattle.capnp_pack.proofs.tables.GroupSizeLemmas.{size_at, size_few, size_tagged}
use Rattle.capnp_pack.proofs.sizes.group_bytes.Goals as goal

pub returns-clause-few : goal.returns-clause-few
returns-clause-few c =
    let low : c.args.tag < 256 = omega arith in
    subst (λ n. (1 ≤ n) × (n ≤ 10)) (sym (size_at c.args.tag _ low)) (size_few c.args.tag low)

pub returns-clause-tagged : goal.returns-clause-tagged
returns-clause-tagged c = λ some other.
    let low : c.args.tag < 256 = omega arith in
    size_at c.args.tag _ low ∙ size_tagged c.args.tag some other
