-- Words of a segment are put as their bytes.
use Rattle.std.proofs.Common.{◌≡◌, ◌+◌, ◌*◌, ◌-◌, arith}
use Rattle.capnp_layout.proofs.words.PutBytesAsWordsLemmas.{words_part}
use Rattle.capnp_layout.proofs.block.put_words.Goals as goal

pub returns-clause-words : goal.returns-clause-words
returns-clause-words g c =
    let size : 8 * c.args.start + 8 * c.args.count - 8 * c.args.start ≡ 8 * c.args.count = omega arith in
    let w = rw size at c.put_bytes.ensures.words in
    rw (← words_part c.args.start c.args.count c.args.segment.now c.requires.there) w
