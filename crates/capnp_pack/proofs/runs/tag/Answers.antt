-- Each bit is a lane's.
use Rattle.std.proofs.Common.{rules, ◌≡◌, length, arith}
use Rattle.capnp_pack.proofs.tables.CompactShuffleLemmas.{marks_word}
use Rattle.capnp_pack.proofs.words.NonzeroByteTagLemmas.{tag_below, top_word}
use Rattle.capnp_pack.proofs.runs.tag.Goals as goal

pub overflow_cast-result : goal.overflow_cast-result
overflow_cast-result c =
    let is : length c.args.word.now ≡ 8 = search rules in
    let value = marks_word c.args.word.now is in
    omega (arith, value, tag_below c.args.word.now, top_word c.args.word.now is)

pub returns : goal.returns
returns c =
    let is : length c.args.word.now ≡ 8 = search rules in
    marks_word c.args.word.now is
