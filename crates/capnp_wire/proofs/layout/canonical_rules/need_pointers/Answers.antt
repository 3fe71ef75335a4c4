-- An element needs its pointers where the last of them is not null.
use Rattle.std.proofs.Common.{◌+◌, ◌-◌, arith}
use Rattle.capnp_layout.specs.Prelude.{words_of}
use Rattle.capnp_wire.proofs.forms.SectionTrimmedByLastWordLemmas.{element_room, need_pointers}
use Rattle.capnp_wire.proofs.layout.canonical_rules.need_pointers.Goals as goal

pub some_is_set-requires-clause-within : goal.some_is_set-requires-clause-within
some_is_set-requires-clause-within c i less =
    let d = c.args.elements.size.data_words in
    let p = c.args.elements.size.pointers in
    let fits = element_room c.args.first (d + p) c.args.elements.count i _ less c.requires in
    omega (arith, fits)

pub returns-else-pointers-eq0 : goal.returns-else-pointers-eq0
returns-else-pointers-eq0 c number =
    let words = words_of c.args.segment.now in
    let d = c.args.elements.size.data_words in
    let p = c.args.elements.size.pointers in
    let e = need_pointers words number c.args.first d p c.args.elements.count (c.args.first + (d + p) - 1) (omega arith) (omega arith) in
    (λ t. e.1 (c.some_is_set.ensures.0 t), λ n. c.some_is_set.ensures.1 (e.0 n))
