-- A pointer points to the next free word, for an object of its form, exactly where it is the pointer word of a
-- layout.
use Rattle.std.proofs.Common.{◌≡◌, ℕ, zero, suc, ◌+◌, ◌-◌, ◌*◌, ◌/◌, ◌^◌, ◌<◌, ◌≤◌, List, [], ◌∷◌, length, refl, sym, ◌∙◌, ap, arith, drop, length-take, length-drop}
use Rattle.std.specs.Prelude.{◌↔◌}
use Rattle.capnp_layout.specs.Prelude.{pointer_kind, offset, data_words, pointer_words, code, list_count, words_from, number_of, width, words_for, struct, object_size, Shape, ShapeIsAt, places, elements_from, elements, a_struct, some_numbers, some_pointers, some_structs, struct_pointer, list_pointer, minus_one, pointer, Reaches}
use Rattle.capnp_wire.specs.Prelude.{PointsToNext, IsNext}
use Rattle.capnp_layout.specs.declared.place.Place.{Place}
use Rattle.capnp_layout.proofs.layouts.LayoutReadBackLemmas.{if_positive}
use Rattle.capnp_layout.proofs.objects.SectionWordByIndexLemmas.{length-places}
use Rattle.capnp_layout.proofs.trees.ReadTreeSizesAndWordsBoundedLemmas.{length-elements_from}
use Rattle.capnp_layout.proofs.words.DigitsToNumberAndBackLemmas.{length-digits}
use Rattle.capnp_layout.proofs.pointers.PointerWordFieldLemmas.{struct_fields, list_fields}
use Rattle.capnp_layout.proofs.pointers.PointerWordFromPartsLemmas.{point_start, list_parts, struct_parts}

-- a list that counts n
list_next : (tag word next c n : ℕ) → pointer_kind tag ≡ 1 → code tag ≡ c → c < 8
    → (PointsToNext tag word next × (list_count tag ≡ n)) ↔ ((tag ≡ list_pointer (next - (word + 1)) c n) × (next - (word + 1) < 2 ^ 29))
list_next tag word next c n k is few = (
  λ t. (list_parts tag (next - (word + 1)) c n k is t.1 t.0.0, t.0.1),
  λ t.
      let f = list_fields (next - (word + 1)) c n (omega (arith, t.1)) few in
      let off : offset tag ≡ next - (word + 1) = ap offset t.0 ∙ f.offset_is in
      let many : list_count tag ≡ n = ap list_count t.0 ∙ f.count_is in
      ((off, t.1), many),
)

list_counted : (tag word next c n : ℕ) → pointer_kind tag ≡ 1 → code tag ≡ c → c < 8 → list_count tag ≡ n
    → PointsToNext tag word next ↔ ((tag ≡ list_pointer (next - (word + 1)) c n) × (next - (word + 1) < 2 ^ 29))
list_counted tag word next c n k is few many =
    let e = list_next tag word next c n k is few in
    (λ t. e.0 (t, many), λ t. (e.1 t).0)

-- a struct of some words, and one of none
some_struct : (tag word next : ℕ) (words : List ℕ) (n : ℕ) → pointer_kind tag ≡ 0 → data_words tag ≡ length words → pointer_words tag ≡ n → 0 < length words + n
    → IsNext tag word next (struct words) n ↔ ((tag ≡ pointer (struct words) n (next - (word + 1))) × Reaches (struct words) n (next - (word + 1)))
some_struct tag word next words n k d p some =
    let is = if_positive (length words + n) minus_one (next - (word + 1)) some in
    let there : pointer (struct words) n (next - (word + 1)) ≡ struct_pointer (next - (word + 1)) (length words) n = ap (λ (o : ℕ). struct_pointer o (length words) n) is in (
      λ t.
          let points_to = t.1 some in
          (struct_parts tag (next - (word + 1)) (length words) n k d p points_to.0 ∙ sym there, λ more. points_to.1),
      λ t.
          let small = t.1 some in
          let f = struct_fields (next - (word + 1)) (length words) n (omega (arith, small)) (omega arith) in
          let off : offset tag ≡ next - (word + 1) = ap offset (t.0 ∙ there) ∙ f.offset_is in
          (λ none. absurd (omega arith), λ more. (off, small)),
    )

empty_struct : (tag word next : ℕ) → pointer_kind tag ≡ 0 → data_words tag ≡ 0 → pointer_words tag ≡ 0
    → IsNext tag word next (struct []) 0 ↔ ((tag ≡ pointer (struct []) 0 (next - (word + 1))) × Reaches (struct []) 0 (next - (word + 1)))
empty_struct tag word next k d p = (
  λ t. (struct_parts tag minus_one 0 0 k d p (t.0 refl), λ some. absurd (omega arith)),
  λ t.
      let off : offset tag ≡ minus_one = ap offset t.0 ∙ (struct_fields minus_one 0 0 (omega arith) (omega arith)).offset_is in
      (λ none. off, λ some. absurd (omega arith)),
)

a_struct_next : (tag word next : ℕ) (words : List ℕ) (n : ℕ) → pointer_kind tag ≡ 0 → data_words tag ≡ length words → pointer_words tag ≡ n
    → IsNext tag word next (struct words) n ↔ ((tag ≡ pointer (struct words) n (next - (word + 1))) × Reaches (struct words) n (next - (word + 1)))
a_struct_next tag word next [] zero k d p = empty_struct tag word next k d p
a_struct_next tag word next [] (suc n) k d p = some_struct tag word next [] (suc n) k d p (omega arith)
a_struct_next tag word next (w ∷ words) n k d p = some_struct tag word next (w ∷ words) n k d p (omega arith)

-- the object says what the pointer's word is, except for its offset
pub next_is_laid_out : (segment : List ℕ) (start : Place) (tag word next : ℕ) (shape : Shape) → ShapeIsAt segment start tag shape
    → IsNext tag word next shape.form (length shape.children) ↔ ((tag ≡ pointer shape.form (length shape.children) (next - (word + 1))) × Reaches shape.form (length shape.children) (next - (word + 1)))
next_is_laid_out segment start tag word next shape (a_struct k room) =
    a_struct_next tag word next (words_from segment start.word (data_words tag)) (length (places start.segment (start.word + data_words tag) (pointer_words tag)))
    k (omega (arith, length-take (data_words tag) (drop start.word segment), length-drop start.word segment))
    (length-places start.segment (start.word + data_words tag) (pointer_words tag))
next_is_laid_out segment start tag word next shape (some_numbers k c room) =
    list_counted tag word next (code tag) (length (elements segment start.word (code tag) (list_count tag))) k refl (omega arith)
    (sym (length-digits (2 ^ width (code tag)) (list_count tag) (number_of (2 ^ 64) (words_from segment start.word (words_for (list_count tag) (width (code tag)))))))
next_is_laid_out segment start tag word next shape (some_pointers k c room) =
    list_counted tag word next 6 (length (places start.segment start.word (list_count tag))) k c (omega arith) (length-places start.segment start.word (list_count tag))
next_is_laid_out segment start tag word next shape (some_structs {tag = inner} k c room there l fits) =
    list_next tag word next 7 (length (elements_from segment (start.word + 1) (data_words inner) (pointer_words inner) (offset inner)) * (data_words inner + pointer_words inner)) k c (omega arith)

struct_room : (segment : List ℕ) (start tag word next : ℕ) (words : List ℕ) (n : ℕ) → start + length words + n ≤ length segment → word < next → next ≤ length segment
    → start + 2 ^ 30 * (offset tag / 2 ^ 29) ≡ word + 1 + offset tag
    → IsNext tag word next (struct words) n → next + (length words + n) ≤ length segment
struct_room segment start tag word next [] zero room before within target is = omega arith
struct_room segment start tag word next [] (suc n) room before within target is =
    let at : start ≡ next = point_start word next start (offset tag) before (is.1 (omega arith)) target in omega arith
struct_room segment start tag word next (w ∷ words) n room before within target is =
    let at : start ≡ next = point_start word next start (offset tag) before (is.1 (omega arith)) target in omega arith

-- and where it points there, the object's words lie after that word
pub next_room : (segment : List ℕ) (start tag word next : ℕ) (shape : Shape) → ShapeIsAt segment (record { segment = 0; word = start }) tag shape → word < next → next ≤ length segment
    → start + 2 ^ 30 * (offset tag / 2 ^ 29) ≡ word + 1 + offset tag
    → IsNext tag word next shape.form (length shape.children) → next + object_size shape.form (length shape.children) ≤ length segment
next_room segment start tag word next shape (a_struct k room) before within target is =
    let d : length (words_from segment start (data_words tag)) ≡ data_words tag = omega (arith, length-take (data_words tag) (drop start segment), length-drop start segment) in
    let p = length-places 0 (start + data_words tag) (pointer_words tag) in
    struct_room segment start tag word next (words_from segment start (data_words tag)) (length (places 0 (start + data_words tag) (pointer_words tag))) (omega arith) before within target is
next_room segment start tag word next shape (some_numbers k c room) before within target is =
    let same = length-digits (2 ^ width (code tag)) (list_count tag) (number_of (2 ^ 64) (words_from segment start (words_for (list_count tag) (width (code tag))))) in
    let at : start ≡ next = point_start word next start (offset tag) before is target in
    rw (same, ← at) room
next_room segment start tag word next shape (some_pointers k c room) before within target is =
    let at : start ≡ next = point_start word next start (offset tag) before is target in
    omega (arith, length-places 0 start (list_count tag))
next_room segment start tag word next shape (some_structs {tag = inner} k c room there l fits) before within target is =
    let at : start ≡ next = point_start word next start (offset tag) before is.0 target in
    let many = length-elements_from segment (start + 1) (data_words inner) (pointer_words inner) (offset inner) in
    rw many (omega arith)
