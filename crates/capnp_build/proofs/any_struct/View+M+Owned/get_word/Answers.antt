-- A data word is one of the first words of the root's bytes.
use Rattle.std.proofs.Common.{◌≡◌, ◌<◌, length, ◌∙◌, arith}
use Rattle.capnp_build.proofs.roots.NoSegmentRootLemmas.{no_field}
use Rattle.capnp_build.proofs.roots.RootObjectFromBodyBytesLemmas.{field_read}
use Rattle.capnp_build.proofs.any_struct.«View+M+Owned».get_word.Goals as goal

pub returns-clause-root : goal.returns-clause-root
returns-clause-root g c = λ form children traversed there words is.
    let many : c.data_words.result ≡ length words = c.data_words.ensures.count form children traversed there words is in
    let within : c.args.index < length words = omega (arith, many, c.if-index-data_words.false) in
    c.word_at.ensures ∙ field_read form c.root_bytes.result.now words c.args.index (c.root_bytes.ensures.form form children traversed there) is within

pub returns-clause-none : goal.returns-clause-none
returns-clause-none g c = λ empty.
    absurd (no_field _ c.args.index (c.data_words.ensures.each c.args.index (omega (arith, c.if-index-data_words.false))) empty)
