-- Where there is no room for the packed encoding, that is the error.
use Rattle.std.proofs.Common.{rules, arith, ◌≤◌, ◌+◌, length, ap, ◌∙◌}
use Rattle.std.proofs.lemmas.Bool.{false≢true}
use Rattle.capnp_frame.specs.Prelude.{kind_number}
use Rattle.capnp_c.proofs.PackWordsIntoBufferLemmas.{packed_alone, block_error, packed_fits}
use Rattle.capnp_c.proofs.packed.linsjoar_pack.Goals as goal

pub returns-in-Ok-clause-short : goal.returns-in-Ok-clause-short
returns-in-Ok-clause-short c packed packs short =
    let encoding = packed_alone c.args.words.now _ _ _ _ c.new-sink.ensures.used c.in-Ok.ensures.packed in
    absurd (packed_fits c.args.words.now packed _ c.len.result packs short (search (rules, encoding)))

pub returns-in-Ok-clause-packed : goal.returns-in-Ok-clause-packed
returns-in-Ok-clause-packed c zero =
    let encoding = packed_alone c.args.words.now _ _ _ _ c.new-sink.ensures.used c.in-Ok.ensures.packed in
    search (rules, encoding)

pub returns-in-Err-clause-short : goal.returns-in-Err-clause-short
returns-in-Err-clause-short c packed packs short =
    c.number.ensures ∙ ap kind_number (block_error c.args.words.now packed c.in-Err.error.kind packs c.in-Err.ensures.errors c.in-Err.ensures.failed)

pub returns-in-Err-clause-accepted : goal.returns-in-Err-clause-accepted
returns-in-Err-clause-accepted c packed packs fits =
    let block : length packed ≤ length c.pack_into.new.sink.block.now = search (rules, fits) in
    let same = c.in-Err.ensures.grows.same_sink.1 in
    let room : c.new-sink.result.used + (length packed + 0) ≤ length c.new-sink.result.block.now = omega (arith, block, same, c.new-sink.ensures.used) in
    absurd (false≢true (c.in-Err.ensures.granted packed 0 packs room).0)
