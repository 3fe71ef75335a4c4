-- What is unpacked was packed.
use Rattle.std.proofs.Common.{◌≡◌, [], length, arith}
use Rattle.capnp_uses.proofs.PackAndUnpackLemmas.{filled_same, unpacks_whole}
use Rattle.capnp_uses.proofs.packing.words_are_unpacked.Goals as goal

pub returns-clause-back : goal.returns-clause-back
returns-clause-back c =
    let room : length c.unpack_words.new.words ≡ length c.args.words.now = omega (arith, c.in_ok-unpacked.ensures.len) in
    filled_same c.args.words.now c.in_ok-encoding.encoding.items _ c.unpack_words.new.words _ _ c.packed_encoding_unpacks.ensures.alone
    c.in_ok-encoding.ensures.packed c.deref.ensures.value room (omega (arith, room, c.in_ok-unpacked.ensures.len)) c.in_ok-unpack_words.ensures.filled

pub returns-in_err-unpack_words-clause-memory : goal.returns-in_err-unpack_words-clause-memory
returns-in_err-unpack_words-clause-memory c =
    let room : length c.unpack_words.new.words ≡ length c.args.words.now = omega (arith, c.in_ok-unpacked.ensures.len) in
    let never = c.in_err-unpack_words.ensures.found c.args.words.now []
    (unpacks_whole c.args.words.now c.in_ok-encoding.encoding.items _ _ c.packed_encoding_unpacks.ensures.given c.in_ok-encoding.ensures.packed c.deref.ensures.value room) in
    absurd (cc)
