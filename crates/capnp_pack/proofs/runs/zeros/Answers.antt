-- The other bytes are marked.
use Rattle.std.proofs.Common.{rules, arith, ◌≡◌, ap, ◌∙◌, length}
use lib.Count.{ones}
use Rattle.capnp_pack.specs.Prelude.{nonzero}
use Rattle.capnp_pack.proofs.tables.CompactShuffleLemmas.{ones_tag}
use Rattle.capnp_pack.proofs.packing.SizeBoundLemmas.{nonzero_len}
use Rattle.capnp_pack.proofs.runs.zeros.Goals as goal

pub returns : goal.returns
returns c =
    let is : length c.args.word.now ≡ 8 = search rules in
    let marked : ones c.tag.result ≡ length (nonzero c.args.word.now) = ap ones c.tag.ensures ∙ ones_tag c.args.word.now in
    omega (arith, marked, nonzero_len c.args.word.now, is)
