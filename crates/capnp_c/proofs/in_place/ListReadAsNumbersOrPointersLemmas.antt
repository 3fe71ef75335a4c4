-- A list is read as numbers or as pointers: its elements are these, or are structs with one as their first field.
use Rattle.std.proofs.Common.{◌≡◌, ℕ, suc, ◌+◌, ◌-◌, ◌*◌, ◌/◌, ◌<◌, ◌≤◌, List, Option, Some, None, MatchOption, slice_index_or, refl, sym, ap, ◌∙◌, subst, arith}
use Rattle.std.proofs.Math.Nat.{mul-le-mul_left}
use Rattle.capnp_layout.specs.Prelude.{words_of, words_for, words_in, room_of, code_of, width, shape_of}
use Rattle.capnp_layout.specs.declared.element_size.ElementSize.{ElementSize}
use Rattle.capnp_layout.specs.declared.object.Body.{Body}
use Rattle.capnp_layout.specs.declared.object.Body.TheVariants.{Numbers, Pointers, Structs}
use Rattle.capnp_layout.specs.declared.place.Place.{Place}
use Rattle.capnp_layout.specs.declared.pointer.Elements.{Elements}
use Rattle.capnp_wire.specs.Prelude.{Pointer, PointerList, IsUpgradedPointers, ReadsAsNumbers, TakesFields, form_of, pointers_from, stepped_places}
use Rattle.capnp_wire.specs.UpgradedViews.{IsFirstField}
use Rattle.capnp_wire.proofs.views.EnteredObjectShownLemmas.{entered_reads}
use Rattle.capnp_wire.proofs.views.UpgradedListReadAsPointersLemmas.{pointers_read, first_pointers_read}
use Rattle.capnp_c.specs.Entering.{Enters}
use Rattle.capnp_c.specs.ReadingLists.{NumbersWithin, numbers_along, numbers_in, pointers_by, ShowsList, TakesList}
use Rattle.capnp_c.specs.declared.reading.element_kind.ElementKind.{ElementKind}
use Rattle.capnp_c.specs.declared.reading.element_kind.ElementKind.TheVariants.{Numbers as NumberKind}
use Rattle.capnp_c.specs.declared.reading.entered.Entered.{Entered}
use Rattle.capnp_c.specs.declared.reading.list.LinsjoarList.{LinsjoarList}
use Rattle.capnp_c.specs.declared.reading.place.LinsjoarPlace.{LinsjoarPlace}
use Rattle.capnp_c.proofs.in_place.ListElementsInBytesLemmas.{numbers_in_place, fields_in_place, in_words}

pub numbers_there : (p : Pointer) (bytes : List ℕ) (entered : Entered) (size : ElementSize) (n bits : ℕ) (first : LinsjoarPlace) (list : LinsjoarList) → Enters p bytes entered
    → entered.object.body ≡ Numbers size n → ((i : ℕ) → slice_index_or bytes i 0 < 256) → bits ≡ width (code_of size)
    → list ≡ record { start = entered.start; first = first; count = n; step = bits; data_len = 0; pointers = 0; code = 0 }
    → ReadsAsNumbers (code_of size) (form_of entered.object) (numbers_in (code_of size) bytes list) × NumbersWithin (code_of size) list bytes
numbers_there p bytes entered size n bits first list enters body fits wide is =
    let c = code_of size in
    let words = words_of entered.object.segment.now in
    let fact : Body → Type 0 = λ b. ReadsAsNumbers c (shape_of words entered.object.start b).form (numbers_in c bytes list) in
    let read = subst fact (sym body)
    (refl, ap (numbers_in c bytes) is ∙ ap (λ b. numbers_along bytes entered.start 0 b c n) wide ∙ numbers_in_place p bytes entered size n enters body fits) in
    let room : room_of entered.object.body ≡ words_for n (width c) = ap room_of body in
    let within : NumbersWithin c list bytes = subst (λ l. NumbersWithin c l bytes) (sym is)
    (λ i less some.
    let at = in_words i (width c) n less some in
    let turned : i * bits ≡ width c * i = ap (λ k. i * k) wide ∙ omega arith in
    omega (arith, at, turned, room, enters.within)) in
    (read, within)

pub fields_there : (p : Pointer) (bytes : List ℕ) (entered : Entered) (size : ElementSize) (there : Elements) (following step : ℕ) (first : LinsjoarPlace) (list : LinsjoarList)
    → Enters p bytes entered → entered.object.body ≡ Structs there following → IsFirstField (code_of size) there.size.data_words
    → step ≡ 64 * (there.size.data_words + there.size.pointers)
    → list ≡ record { start = entered.start + 8; first = first; count = there.count; step = step; data_len = 0; pointers = 0; code = 0 }
    → ReadsAsNumbers (code_of size) (form_of entered.object) (numbers_in (code_of size) bytes list) × NumbersWithin (code_of size) list bytes
fields_there p bytes entered size there following step first list enters body field step_is is =
    let c = code_of size in
    let words = words_of entered.object.segment.now in
    let fact : Body → Type 0 = λ b. ReadsAsNumbers c (shape_of words entered.object.start b).form (numbers_in c bytes list) in
    let read = subst fact (sym body) (
      field,
      ap (numbers_in c bytes) is ∙ ap (λ k. numbers_along bytes (entered.start + 8) 0 k c there.count) step_is
          ∙ fields_in_place p bytes entered there following c enters body field.inside,
    ) in
    let s = there.size.data_words + there.size.pointers in
    let used : words_in entered.object.body ≡ 1 + there.count * s = ap words_in body in
    let within : NumbersWithin c list bytes = subst (λ l. NumbersWithin c l bytes) (sym is)
    (λ i less some.
    let most : suc i ≤ there.count = omega (arith, less) in
    let ends = mul-le-mul_left s most in
    let at : 1 + i * s < room_of entered.object.body = omega (arith, used, enters.object.object_is.elements, ends, field.inside, some) in
    let turned : i * step ≡ i * (64 * s) = ap (λ k. i * k) step_is in
    let whole : i * (64 * s) / 64 ≡ i * s = omega arith in
    omega (arith, turned, whole, at, enters.within)) in
    (read, within)

list_as_pointers : (p : Pointer) (list : LinsjoarList) (place : Place) (step n : ℕ) → list.first.segment ≡ place.segment → list.first.word ≡ place.word → list.step / 64 ≡ step
    → list.count ≡ n → list.first.nesting ≡ p.nesting - 1 → pointers_by p.message p.limit list ≡ pointers_from p place step n
list_as_pointers p list place step n a b c d e =
    let make : List Place → ℕ → PointerList = λ cs k. record { message = p.message; children = cs; nesting = k; limit = p.limit } in
    let children : stepped_places list.first.segment list.first.word (list.step / 64) list.count ≡ stepped_places place.segment place.word step n =
    ap (λ k. stepped_places k list.first.word (list.step / 64) list.count) a
    ∙ ap (λ k. stepped_places place.segment k (list.step / 64) list.count) b
    ∙ ap (λ k. stepped_places place.segment place.word k list.count) c
    ∙ ap (λ k. stepped_places place.segment place.word step k) d in
    ap (λ cs. make cs list.first.nesting) children ∙ ap (make (stepped_places place.segment place.word step n)) e

pub pointers_there_too : (p : Pointer) (bytes : List ℕ) (entered : Entered) (n : ℕ) (first : LinsjoarPlace) (list : LinsjoarList) → Enters p bytes entered
    → entered.object.body ≡ Pointers n
    → first ≡ record { word = entered.object.start.word + 0; segment = entered.object.start.segment; nesting = entered.nesting; is_there = 1 }
    → list ≡ record { start = 0; first = first; count = n; step = 64; data_len = 0; pointers = 0; code = 0 }
    → IsUpgradedPointers p (pointers_by p.message p.limit list)
pointers_there_too p bytes entered n first list enters body first_is is =
    let plain : LinsjoarList = record { start = 0; first = first; count = n; step = 64; data_len = 0; pointers = 0; code = 0 } in
    pointers_read p entered.object n (pointers_by p.message p.limit list) enters.object body
    (ap (pointers_by p.message p.limit) is
    ∙ list_as_pointers p plain entered.object.start 1 n (ap (λ (f : LinsjoarPlace). f.segment) first_is)
    (ap (λ (f : LinsjoarPlace). f.word) first_is ∙ omega arith) refl refl (ap (λ (f : LinsjoarPlace). f.nesting) first_is ∙ enters.nesting))

pub first_pointers_there : (p : Pointer) (bytes : List ℕ) (entered : Entered) (there : Elements) (following step : ℕ) (first : LinsjoarPlace) (list : LinsjoarList) → Enters p bytes entered
    → entered.object.body ≡ Structs there following → 0 < there.size.pointers → step ≡ 64 * (there.size.data_words + there.size.pointers)
    → first ≡ record { word = entered.object.start.word + (1 + there.size.data_words); segment = entered.object.start.segment; nesting = entered.nesting; is_there = 1 }
    → list ≡ record { start = 0; first = first; count = there.count; step = step; data_len = 0; pointers = 0; code = 0 }
    → IsUpgradedPointers p (pointers_by p.message p.limit list)
first_pointers_there p bytes entered there following step first list enters body some step_is first_is is =
    let s = there.size.data_words + there.size.pointers in
    let place : Place = record { segment = first.segment; word = first.word } in
    let plain : LinsjoarList = record { start = 0; first = first; count = there.count; step = step; data_len = 0; pointers = 0; code = 0 } in
    let in_words : step / 64 ≡ s = omega (arith, step_is) in
    first_pointers_read p entered.object there following s place (pointers_by p.message p.limit list) enters.object body some refl
    (ap (λ (f : LinsjoarPlace). f.segment) first_is) (ap (λ (f : LinsjoarPlace). f.word) first_is ∙ omega arith)
    (ap (pointers_by p.message p.limit) is
    ∙ list_as_pointers p plain place s there.count refl refl in_words refl (ap (λ (f : LinsjoarPlace). f.nesting) first_is ∙ enters.nesting))

-- numbers that are shown of an object are shown of its pointer
pub shown_numbers : (p : Pointer) (bytes : List ℕ) (entered : Entered) (size : ElementSize) (wanted : ElementKind) (result : Option LinsjoarList) → Enters p bytes entered
    → wanted ≡ NumberKind size
    → MatchOption result (TakesFields (code_of size) (form_of entered.object) → ⊥) (λ list. ReadsAsNumbers (code_of size) (form_of entered.object) (numbers_in (code_of size) bytes list) × NumbersWithin (code_of size) list bytes)
    → MatchOption result (TakesList wanted (form_of entered.object) → ⊥) (λ list. ShowsList wanted p bytes list)
shown_numbers p bytes entered size wanted None enters is holds = rw is holds
shown_numbers p bytes entered size wanted (Some list) enters is holds =
    rw is (entered_reads p entered.object (λ form. ReadsAsNumbers (code_of size) form (numbers_in (code_of size) bytes list)) enters.object holds.0, holds.1)
