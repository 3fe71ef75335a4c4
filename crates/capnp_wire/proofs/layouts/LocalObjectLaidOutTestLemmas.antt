-- What is tested of an object in the segment of its pointer says that it is laid out at the next free word, and
-- that its words lie after that.
use Rattle.std.proofs.Common.{◌≡◌, ℕ, ◌+◌, ◌*◌, ◌/◌, ◌^◌, ◌<◌, ◌≤◌, List, length, Some, slice_get, sym, subst, arith}
use Rattle.std.specs.Prelude.{◌↔◌}
use Rattle.capnp_layout.specs.Prelude.{offset, code_of, numbers, object_size, elements, shape_of, room_of, words_in}
use Rattle.capnp_wire.specs.Prelude.{Padded, IsNext, NextOf, PaddedOf, IsTruncated, links_at, IsLaidOut}
use Rattle.capnp_layout.specs.declared.place.Place.{Place}
use Rattle.capnp_layout.specs.declared.object.Body.{Body}
use Rattle.capnp_layout.specs.declared.object.Body.TheVariants.{Struct, Numbers, Pointers, Structs}
use Rattle.capnp_layout.specs.declared.object.Object.{Object as ReadObject}
use Rattle.capnp_layout.proofs.objects.SectionWordByIndexLemmas.{length-places}
use Rattle.capnp_layout.proofs.trees.ReadTreeSizesAndWordsBoundedLemmas.{length-elements_from}
use Rattle.capnp_layout.proofs.pointers.PointerWordFromPartsLemmas.{point_start}
use Rattle.capnp_wire.proofs.pointers.LayoutPointerWhereTargetNextLemmas.{next_room}
use Rattle.capnp_layout.proofs.objects.ReadObjectSizeFromShapeLemmas.{own_words_are}
use Rattle.capnp_layout.proofs.words.SubsliceLengthAndFirstWordLemmas.{length-subslice}
use Rattle.capnp_layout.proofs.objects.SingleSegmentObjectPlaceLemmas.{ReadLocal, shape_as}

-- the tests, as they are done
pub next_of_is : (segment : List ℕ) (start : Place) (body : Body) (pointer word next : ℕ) → start.word + room_of body ≤ length segment
    → NextOf pointer word next body ↔ IsNext pointer word next (shape_of segment start body).form (length (shape_of segment start body).children)
next_of_is segment start (Struct size) pointer word next room =
    let d = length-subslice segment start.word size.data_words (omega arith) in
    let p = length-places start.segment (start.word + size.data_words) size.pointers in (
      λ t. (λ none. t.0 (omega arith), λ some. t.1 (omega arith)),
      λ t. (λ none. t.0 (omega arith), λ some. t.1 (omega arith)),
    )
next_of_is segment start (Numbers size count) pointer word next room = (λ t. t, λ t. t)
next_of_is segment start (Pointers count) pointer word next room = (λ t. t, λ t. t)
next_of_is segment start (Structs e more) pointer word next room =
    let many = length-elements_from segment (start.word + 1) e.size.data_words e.size.pointers e.count in
    (λ t. (t.0, rw many t.1), λ t. (t.0, rw many at t.1))

padded_of_is : (segment : List ℕ) (start : Place) (body : Body) (pointer word next : ℕ) → word < next → start.word + 2 ^ 30 * (offset pointer / 2 ^ 29) ≡ word + 1 + offset pointer
    → NextOf pointer word next body → PaddedOf segment next body ↔ Padded segment next (shape_of segment start body).form
padded_of_is segment start (Struct size) pointer word next before target is = (λ t. tt, λ t. tt)
padded_of_is segment start (Numbers size count) pointer word next before target is =
    let at : start.word ≡ next = point_start word next start.word (offset pointer) before is target in (
      λ t. subst (λ (s : ℕ). Padded segment next (numbers (code_of size) (elements segment s (code_of size) count))) (sym at) t,
      λ t. subst (λ (s : ℕ). Padded segment next (numbers (code_of size) (elements segment s (code_of size) count))) at t,
    )
padded_of_is segment start (Pointers count) pointer word next before target is = (λ t. tt, λ t. tt)
padded_of_is segment start (Structs e more) pointer word next before target is = (λ t. tt, λ t. tt)

-- the object's words lie after the next free word
pub read_room : (segment : List ℕ) (word pointer next : ℕ) (object : ReadObject) → ReadLocal segment word pointer object → word < next → next ≤ length segment
    → NextOf pointer word next object.body → next + words_in object.body ≤ length segment
read_room segment word pointer next object r before within is =
    let e = next_of_is segment object.start object.body pointer word next r.room in
    let form : IsNext pointer word next r.shape.form (length r.shape.children) = rw (r.form_is, r.children_is) (e.0 is) in
    let room = next_room segment object.start.word pointer word next r.shape r.is_at before within r.target form in
    let own = own_words_are segment object.start object.body r.room in
    let here : next + object_size (shape_of segment object.start object.body).form (length (shape_of segment object.start object.body).children) ≤ length segment = rw (r.form_is, r.children_is) at room in
    omega (arith, own, here)

abbrev pub Tests : List ℕ → ℕ → ℕ → ℕ → ReadObject → Type 0
Tests segment pointer word next object = NextOf pointer word next object.body × PaddedOf segment next object.body
    × IsTruncated (shape_of segment object.start object.body).form (links_at segment (shape_of segment object.start object.body).children)

pub laid_out_is : (segment : List ℕ) (word pointer next : ℕ) (object : ReadObject) → ReadLocal segment word pointer object → word < next
    → slice_get segment word ≡ Some pointer → Tests segment pointer word next object ↔ IsLaidOut segment (record { segment = 0; word = word }) next (shape_as segment object)
laid_out_is segment word pointer next object r before there =
    let e = next_of_is segment object.start object.body pointer word next r.room in (
      λ t. record {
        pointer = pointer;
        there = there;
        is_next = e.0 t.0;
        padded = (padded_of_is segment object.start object.body pointer word next before r.target t.0).0 t.1;
        truncated = t.2;
      },
      λ l.
          let same : l.pointer ≡ pointer = (let other : slice_get segment word ≡ Some l.pointer = l.there in cc) in
          let next_is : NextOf pointer word next object.body =
          e.1 (subst (λ (x : ℕ). IsNext x word next (shape_of segment object.start object.body).form (length (shape_of segment object.start object.body).children)) same l.is_next) in
          (next_is, (padded_of_is segment object.start object.body pointer word next before r.target next_is).1 l.padded, l.truncated),
    )
