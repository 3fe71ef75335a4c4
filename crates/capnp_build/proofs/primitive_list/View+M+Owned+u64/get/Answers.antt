-- A number is one of the words of the root's bytes.
use Rattle.std.proofs.Common.{◌≡◌, ◌<◌, length, ◌∙◌, arith}
use Rattle.capnp_build.proofs.roots.NoSegmentRootLemmas.{no_number}
use Rattle.capnp_build.proofs.roots.RootObjectFromBodyBytesLemmas.{number_read}
use Rattle.capnp_build.proofs.primitive_list.«View+M+Owned+u64».get.Goals as goal

pub returns-clause-root : goal.returns-clause-root
returns-clause-root g c = λ form children traversed there words is.
    let many : c.len.result ≡ length words = c.len.ensures.count form children traversed there words is in
    let within : c.args.index < length words = omega (arith, many, c.if-index-len.false) in
    c.word_at.ensures ∙ number_read form c.root_bytes.result.now words c.args.index (c.root_bytes.ensures.form form children traversed there) is within

pub returns-clause-none : goal.returns-clause-none
returns-clause-none g c = λ empty.
    absurd (no_number _ c.args.index (c.len.ensures.each c.args.index (omega (arith, c.if-index-len.false))) empty)
