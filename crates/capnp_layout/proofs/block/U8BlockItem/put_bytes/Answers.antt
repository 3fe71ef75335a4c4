-- Bytes of whole words are words.
use Rattle.std.proofs.Common.{◌≡◌, ◌≤◌, ◌+◌, ◌*◌, ◌-◌, ◌/◌, length, ◌∙◌, ap, arith}
use Rattle.capnp_layout.specs.Prelude.{words_of}
use Rattle.capnp_layout.proofs.words.WordsOfBytesLemmas.{length-words_of}
use Rattle.capnp_layout.proofs.layouts.PutWordsCombinedLemmas.{length-put}
use Rattle.capnp_layout.proofs.words.PutBytesAsWordsLemmas.{put_mid_words}
use Rattle.capnp_layout.proofs.block.U8BlockItem.put_bytes.Goals as goal

pub overflow_mul-begin : goal.overflow_mul-begin
overflow_mul-begin c = omega (arith, c.requires.room, length-words_of c.args.block.now)

pub overflow_add-begin : goal.overflow_add-begin
overflow_add-begin c = omega (arith, c.requires.room, length-words_of c.args.block.now)

pub slice_bounds-copy_bytes-end : goal.slice_bounds-copy_bytes-end
slice_bounds-copy_bytes-end c = omega (arith, c.requires.room, c.requires.whole, length-words_of c.args.block.now)

pub returns-clause-words : goal.returns-clause-words
returns-clause-words c =
    let size : 8 * c.args.at + length c.args.bytes.now - 8 * c.args.at ≡ length c.args.bytes.now = omega arith in
    let room : c.args.at + length c.args.bytes.now / 8 ≤ length c.args.block.now / 8 = omega (arith, c.requires.room, length-words_of c.args.block.now) in
    rw (size, c.copy_bytes.ensures) (put_mid_words c.args.at c.args.block.now c.args.bytes.now c.requires.whole room)

pub returns-clause-len : goal.returns-clause-len
returns-clause-len c =
    let size : 8 * c.args.at + length c.args.bytes.now - 8 * c.args.at ≡ length c.args.bytes.now = omega arith in
    let room : c.args.at + length c.args.bytes.now / 8 ≤ length c.args.block.now / 8 = omega (arith, c.requires.room, length-words_of c.args.block.now) in
    let put_there = put_mid_words c.args.at c.args.block.now c.args.bytes.now c.requires.whole room in
    let fits : c.args.at + length (words_of c.args.bytes.now) ≤ length (words_of c.args.block.now) = omega (arith, c.requires.room, length-words_of c.args.bytes.now) in
    rw (size, c.copy_bytes.ensures) (ap length put_there ∙ length-put c.args.at (words_of c.args.bytes.now) (words_of c.args.block.now) fits)
