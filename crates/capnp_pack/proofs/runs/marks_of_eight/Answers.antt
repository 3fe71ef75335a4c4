-- Each bit is a lane's.
use Rattle.std.proofs.Common.{rules, ◌≡◌}
use Rattle.std.specs.List.{flat_map}
use Rattle.capnp_pack.proofs.words.ChunkWordLemmas.{each_word}
use Rattle.capnp_pack.proofs.words.LeadingZeroWordsByMaskLemmas.{marks_eight}
use Rattle.capnp_pack.proofs.runs.marks_of_eight.Goals as goal

pub returns : goal.returns
returns c =
    let flat : c.as_flattened.result.now ≡ flat_map (λ x. x) c.args.words.now = search rules in
    marks_eight c.args.words.now c.as_flattened.result.now (each_word c.args.words.now c.told-words) c.requires flat
