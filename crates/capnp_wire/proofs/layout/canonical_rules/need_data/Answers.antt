-- An element needs its data where the last word of it is not zero.
use Rattle.std.proofs.Common.{◌+◌, ◌-◌, arith}
use Rattle.capnp_layout.specs.Prelude.{words_of}
use Rattle.capnp_layout.proofs.words.WordsOfBytesLemmas.{length-words_of}
use Rattle.capnp_wire.proofs.forms.SectionTrimmedByLastWordLemmas.{element_room, need_data}
use Rattle.capnp_wire.proofs.layout.canonical_rules.need_data.Goals as goal

pub some_is_set-requires-clause-within : goal.some_is_set-requires-clause-within
some_is_set-requires-clause-within c i less =
    let d = c.args.elements.size.data_words in
    let p = c.args.elements.size.pointers in
    let fits = element_room c.args.first (d + p) c.args.elements.count i _ less c.requires in
    omega (arith, fits)

pub returns-else-data_words-eq0 : goal.returns-else-data_words-eq0
returns-else-data_words-eq0 c =
    let words = words_of c.args.segment.now in
    let d = c.args.elements.size.data_words in
    let p = c.args.elements.size.pointers in
    let e = need_data words c.args.first d p c.args.elements.count (c.args.first + d - 1) (omega (arith, c.requires, length-words_of c.args.segment.now)) (omega arith) (omega arith) in
    (λ t. e.1 (c.some_is_set.ensures.0 t), λ n. c.some_is_set.ensures.1 (e.0 n))
