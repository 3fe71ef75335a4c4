-- Each kind of object by its words.
use Rattle.std.proofs.Common.{◌≡◌, ◌+◌, ℕ, List, length, sym, subst, arith}
use Rattle.capnp_layout.specs.Prelude.{words_of, words_from, places, pointer_places, elements_from}
use Rattle.capnp_wire.specs.Prelude.{EndsFull, links_at}
use Rattle.capnp_layout.proofs.words.WordsOfBytesLemmas.{length-words_of}
use Rattle.capnp_layout.proofs.trees.ReadTreeSizesAndWordsBoundedLemmas.{length-elements_from}
use Rattle.capnp_wire.proofs.forms.SectionTrimmedByLastWordLemmas.{links_places}
use Rattle.capnp_wire.proofs.layout.canonical_rules.is_truncated.Goals as goal

pub returns-then-ends_full : goal.returns-then-ends_full
returns-then-ends_full c =
    let words = words_of c.args.object.now.segment.now in
    let place = c.args.object.now.start in
    let size = c.in-Struct.size in
    let room = rw c.in-Struct.is at c.requires.room in
    let links : links_at words (places place.segment (place.word + size.data_words) size.pointers) ≡ words_from words (place.word + size.data_words) size.pointers =
    links_places words place.segment (place.word + size.data_words) size.pointers (omega (arith, length-words_of c.args.object.now.segment.now)) in
    rw c.in-Struct.is (
      λ t. (c.ends_full.ensures.0 c.if-ends_full.true, subst (λ (l : List ℕ). EndsFull l) (sym links) (c.ends_full-then-ends_full.ensures.0 t)),
      λ t. c.ends_full-then-ends_full.ensures.1 (subst (λ (l : List ℕ). EndsFull l) links t.1),
    )

pub returns-then-need_data : goal.returns-then-need_data
returns-then-need_data c =
    let words = words_of c.args.object.now.segment.now in
    let place = c.args.object.now.start in
    let e = c.in-Structs.elements in
    let many : length (elements_from words (place.word + 1) e.size.data_words e.size.pointers e.count) ≡ e.count = length-elements_from words (place.word + 1) e.size.data_words e.size.pointers e.count in
    let links = links_at words (pointer_places place.segment (place.word + 1) e.size.data_words e.size.pointers e.count) in
    let need = c.need_pointers.ensures place.segment in
    rw c.in-Structs.is (
      λ t. (c.need_data.ensures.0 c.if-need_data.true, rw many (need.0 t)),
      λ t. need.1 (rw many at t.1),
    )
