-- The walk over a struct's pointers counts the words after its own.
use Rattle.std.proofs.Common.{◌≡◌, ◌≢◌, ◌+◌, ◌≤◌, ◌∙◌, List, [], ap, refl, sym, subst, length, arith}
use Rattle.capnp_layout.specs.Prelude.{words_of, message_of, words_in, output_body_of}
use Rattle.capnp_layout.specs.declared.object.Body.TheVariants.{Struct}
use Rattle.capnp_layout.specs.declared.place.Place.{Place}
use Rattle.capnp_layout.proofs.words.WordsOfBytesLemmas.{length-words_of}
use Rattle.capnp_layout.proofs.pointers.KeptPointerPlacesBySectionLemmas.{kept_children}
use Rattle.capnp_wire.proofs.views.StructValueMeasureAndWriteLemmas.{struct_measured, struct_children}
use Rattle.capnp_wire.specs.Prelude.{counted as counted_by}
use Rattle.capnp_wire.proofs.layout.struct_value.measure.Goals as goal

pub walk_pointers-requires : goal.walk_pointers-requires
walk_pointers-requires g c =
    let fields = c.args.fields in
    let m = message_of (g.S.ReaderSegments.segments c.args.segments.now) in
    let words = words_of fields.segment.now in
    let all : fields.size.pointers ≤ fields.size.pointers = omega arith in
    let places_are = c.pointers.ensures.places ∙ sym (kept_children words fields.start (Struct fields.size)) in
    record {
      content = λ some. rw c.pointers.ensures.segment (struct_children m words fields.start fields.size fields.size.pointers c.requires.content all
          (subst (λ (l : List Place). l ≢ []) places_are some));
    }

pub returns : goal.returns
returns g c =
    let m = message_of (g.S.ReaderSegments.segments c.args.segments.now) in
    let words = words_of c.args.fields.segment.now in
    let size = c.args.fields.size in
    let found = rw (c.pointers.ensures.places, c.count.ensures.left, c.new-walk.ensures.left) at c.in_ok-walk_pointers.ensures.found in
    let first = rw c.new-walk.ensures.words at c.count.ensures.words in
    let counted = rw (← c.words-2.ensures) at found.counted (0 + c.words.result) (first 0 refl) in
    let own : c.words.result ≡ words_in (output_body_of c.args.canonical (words_of c.args.fields.segment.now) c.args.fields.start.word (Struct c.args.fields.size)) = c.words.ensures ∙ ap words_in c.output_body.ensures.body in
    let room : c.args.fields.start.word + (c.args.fields.size.data_words + c.args.fields.size.pointers) ≤ length (words_of c.args.fields.segment.now) = omega (arith, c.requires.room, length-words_of c.args.fields.segment.now) in
    struct_measured m words c.args.fields.start c.args.fields.size c.args.nesting c.args.limit c.walk_pointers.new.self.left c.args.canonical (counted_by c.count.new.self) (counted_by c.walk_pointers.new.self)
    c.requires.content room (omega arith) (omega arith) c.words_fit.ensures.words found (0 + c.words.result + found.words) (omega (arith, own)) c.checked_walk.result
    (c.checked_walk.ensures (0 + c.words.result + found.words) counted)
