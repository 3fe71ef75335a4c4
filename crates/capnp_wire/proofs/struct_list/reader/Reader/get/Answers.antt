-- An element of a list of structs is after those before it, and within the list.
use Rattle.std.proofs.Common.{◌+◌, ◌*◌, ℕ, List, [], slice_index_or, refl, ap, ◌∙◌, arith}
use Rattle.capnp_layout.specs.Prelude.{words_of, message_of, places, elements_from}
use Rattle.capnp_wire.specs.Prelude.{limit_of, Struct}
use Rattle.capnp_layout.specs.declared.place.Place.{Place}
use Rattle.capnp_layout.proofs.objects.StructElementPlaceLemmas.{element_within, element_words, element_pointers}
use Rattle.capnp_wire.proofs.struct_list.reader.Reader.get.Goals as goal

pub overflow_mul-words_before : goal.overflow_mul-words_before
overflow_mul-words_before g c =
    let self = c.args.self.now in
    let size = self.elements.size in
    let ends = element_within (words_of self.segment.now) self.first.word size.data_words size.pointers self.elements.count c.args.index c.words.result c.requires c.words.ensures in
    omega (arith, ends, self.room)

pub overflow_add-result : goal.overflow_add-result
overflow_add-result g c =
    let self = c.args.self.now in
    let size = self.elements.size in
    let ends = element_within (words_of self.segment.now) self.first.word size.data_words size.pointers self.elements.count c.args.index c.words.result c.requires c.words.ensures in
    omega (arith, ends, self.room)

pub invariant_of-result : goal.invariant_of-result
invariant_of-result g c =
    let self = c.args.self.now in
    let size = self.elements.size in
    let ends = element_within (words_of self.segment.now) self.first.word size.data_words size.pointers self.elements.count c.args.index c.words.result c.requires c.words.ensures in
    record { room = omega (arith, ends, self.room); content = self.content; own = λ some. absurd (some refl) }

pub returns : goal.returns
returns g c =
    let self = c.args.self.now in
    let size = self.elements.size in
    let words = words_of self.segment.now in
    let start = self.first.word + c.args.index * c.words.result in
    let fields : List ℕ → List Place → Struct = λ element children. record {
      message = message_of (g.S.ReaderSegments.segments self.segments.now);
      words = element;
      children = children;
      nesting = self.nesting;
      limit = limit_of self.limiter;
    } in
    ap (λ (element : List ℕ). fields element (places self.first.segment (start + size.data_words) size.pointers))
    (element_words words self.first.word size.data_words size.pointers self.elements.count c.args.index c.words.result c.requires c.words.ensures)
    ∙ ap (fields (slice_index_or (elements_from words self.first.word size.data_words size.pointers self.elements.count) c.args.index []))
    (element_pointers words self.first.word size.data_words size.pointers self.elements.count c.args.index c.words.result c.requires c.words.ensures self.first.segment)
