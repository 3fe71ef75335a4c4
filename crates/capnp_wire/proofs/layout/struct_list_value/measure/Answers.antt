-- The walk over the pointers of a list of structs counts the words after its own.
use Rattle.std.proofs.Common.{◌≢◌, ◌+◌, ◌*◌, ◌≤◌, List, [], inl, ◌∙◌, ap, sym, refl, subst, length, arith}
use Rattle.std.proofs.lemmas.Result.{err_from_is_err_and}
use Rattle.capnp_layout.specs.Prelude.{words_of, message_of, pointer_places}
use Rattle.capnp_wire.specs.Prelude.{structs_along, counted as counted_by}
use Rattle.capnp_layout.specs.declared.place.Place.{Place}
use Rattle.capnp_layout.specs.declared.pointer.StructSize.{StructSize}
use Rattle.capnp_layout.proofs.words.WordsOfBytesLemmas.{length-words_of}
use Rattle.capnp_layout.proofs.pointers.KeptPointerPlacesBySectionLemmas.{kept_all}
use Rattle.capnp_wire.proofs.views.ListValueMeasureLemmas.{own_structs, list_measured, elements_children}
use Rattle.capnp_wire.proofs.layout.struct_list_value.measure.Goals as goal

pub walk_pointers-requires : goal.walk_pointers-requires
walk_pointers-requires g c =
    let m = message_of (g.S.ReaderSegments.segments c.args.segments.now) in
    let first = c.args.list.first in
    let size = c.args.list.elements.size in
    let all : size.pointers ≤ size.pointers = omega arith in
    let places_are = rw c.section_sizes-size.ensures at c.new-pointers.ensures.places in
    record {
      content = λ some. rw c.new-pointers.ensures.segment (elements_children m (words_of c.args.list.segment.now) first size size.pointers c.args.list.elements.count c.requires.content all
          (subst (λ (l : List Place). l ≢ []) places_are some));
    }

pub returns-in_err-walk_pointers : goal.returns-in_err-walk_pointers
returns-in_err-walk_pointers g c =
    let first = c.args.list.first in
    let elements = c.args.list.elements in
    let size = elements.size in
    let p = err_from_is_err_and c.from_residual.result c.from_residual.ensures.1 in
    let places_are = (rw c.section_sizes-size.ensures at c.new-pointers.ensures.places) ∙ sym (kept_all first.segment first.word size.data_words size.pointers elements.count) in
    rw (p.1, p.2) (inl (rw (places_are, c.count.ensures.left, c.new-walk.ensures.left) at c.in_err-walk_pointers.ensures.errors))

pub returns : goal.returns
returns g c =
    let m = message_of (g.S.ReaderSegments.segments c.args.segments.now) in
    let words = words_of c.args.list.segment.now in
    let first = c.args.list.first in
    let elements = c.args.list.elements in
    let size = elements.size in
    let at = pointer_places first.segment first.word size.data_words size.pointers elements.count in
    let places_are = (rw c.section_sizes-size.ensures at c.new-pointers.ensures.places) ∙ sym (kept_all first.segment first.word size.data_words size.pointers elements.count) in
    let found = rw (places_are, c.count.ensures.left, c.new-walk.ensures.left) at c.in_ok-walk_pointers.ensures.found in
    let own_counted = rw c.new-walk.ensures.words at c.count.ensures.words in
    let kept = c.output_elements-kept.ensures in
    let own = 1 + c.words.result in
    let own_is = ap (λ k. 1 + k) (c.words.ensures.words ∙ ap (λ n. n * (c.output_elements-kept.result.size.data_words + c.output_elements-kept.result.size.pointers)) kept.count
    ∙ ap (λ (k : StructSize). elements.count * (k.data_words + k.pointers)) kept.size) in
    let counted = rw (← c.words-2.ensures) at found.counted (0 + own) (own_counted 0 refl) in
    let room : first.word + elements.count * (size.data_words + size.pointers) ≤ length (words_of c.args.list.segment.now) = omega (arith, c.requires.room, length-words_of c.args.list.segment.now) in
    list_measured (structs_along words first elements) m at c.args.nesting c.args.limit _ c.args.canonical (counted_by c.count.new.self) _ _
    (own_structs m words first elements c.args.canonical c.requires.content room c.words_fit.ensures.words (omega arith) (omega arith) c.requires.few c.requires.few_words) found
    (0 + own + found.words) (omega (arith, own_is)) c.checked_walk.result (c.checked_walk.ensures (0 + own + found.words) counted)
