-- A list has as many elements as its count says.
use Rattle.std.proofs.Common.{◌^◌, sym}
use Rattle.capnp_layout.specs.Prelude.{number_of, words_of, words_from, width, words_for}
use Rattle.capnp_layout.proofs.words.DigitsToNumberAndBackLemmas.{length-digits}
use Rattle.capnp_wire.proofs.primitive_list.reader.Reader.len.Goals as goal

pub returns : goal.returns
returns g c =
    let self = c.args.self.now in
    let bits = width g.T.PrimitiveElement.code in
    sym (length-digits (2 ^ bits) self.count (number_of (2 ^ 64) (words_from (words_of self.bytes.now) 0 (words_for self.count bits))))
