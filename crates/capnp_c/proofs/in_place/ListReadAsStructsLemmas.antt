-- A list of structs or of pointers is read as structs.
use Rattle.std.proofs.Common.{◌≡◌, ℕ, ◌+◌, ◌-◌, ◌*◌, ◌/◌, List, Option, refl, ap, ◌∙◌, suc, ◌≤◌, sym, subst, arith}
use Rattle.std.proofs.Math.Nat.{mul-le-mul_left}
use Rattle.capnp_layout.specs.Prelude.{words_of, room_of, words_in, elements_from, pointer_places}
use Rattle.capnp_layout.specs.declared.object.Body.TheVariants.{Pointers, Structs}
use Rattle.capnp_layout.specs.declared.place.Place.{Place}
use Rattle.capnp_layout.specs.declared.pointer.Elements.{Elements}
use Rattle.capnp_wire.specs.Prelude.{Pointer, StructList, IsUpgradedStructs, elements_without_data}
use Rattle.capnp_wire.proofs.views.UpgradedListReadAsStructsLemmas.{structs_upgraded, pointers_upgraded}
use Rattle.capnp_c.specs.Entering.{Enters}
use Rattle.capnp_c.specs.ReadingLists.{StructsWithin, data_along, pointers_along, structs_by}
use Rattle.capnp_c.specs.declared.reading.entered.Entered.{Entered}
use Rattle.capnp_c.specs.declared.reading.list.LinsjoarList.{LinsjoarList}
use Rattle.capnp_c.specs.declared.reading.place.LinsjoarPlace.{LinsjoarPlace}
use Rattle.capnp_c.proofs.in_place.ListElementsInBytesLemmas.{data_there, pointers_there}

pub list_as_structs : (message : List (List ℕ)) (limit : Option ℕ) (bytes : List ℕ) (list : LinsjoarList) (there : List (List ℕ)) (pointers : ℕ) (children : List Place) (nesting : ℕ)
    → data_along bytes list.start (list.step / 8) list.data_len list.count ≡ there → list.pointers ≡ pointers
    → pointers_along list.first.segment list.first.word (list.step / 64) list.pointers list.count ≡ children → list.first.nesting ≡ nesting
    → structs_by message limit bytes list ≡ record { message = message; elements = there; pointer_words = pointers; children = children; nesting = nesting; limit = limit }
list_as_structs message limit bytes list there pointers children nesting a b c d =
    let own_data = data_along bytes list.start (list.step / 8) list.data_len list.count in
    let own = pointers_along list.first.segment list.first.word (list.step / 64) list.pointers list.count in
    let make : List (List ℕ) → ℕ → List Place → ℕ → StructList = λ es p cs n. record { message = message; elements = es; pointer_words = p; children = cs; nesting = n; limit = limit } in
    ap (λ es. make es list.pointers own list.first.nesting) a
    ∙ ap (λ p. make there p own list.first.nesting) b
    ∙ ap (λ cs. make there pointers cs list.first.nesting) c
    ∙ ap (λ n. make there pointers children n) d

pub structs_there : (p : Pointer) (bytes : List ℕ) (entered : Entered) (there : Elements) (following step : ℕ) (first : LinsjoarPlace) (list : LinsjoarList) → Enters p bytes entered
    → entered.object.body ≡ Structs there following → step ≡ 64 * (there.size.data_words + there.size.pointers)
    → first ≡ record { word = entered.object.start.word + (1 + there.size.data_words); segment = entered.object.start.segment; nesting = entered.nesting; is_there = 1 }
    → list ≡ record { start = entered.start + 8; first = first; count = there.count; step = step; data_len = 8 * there.size.data_words; pointers = there.size.pointers; code = 0 }
    → IsUpgradedStructs p (structs_by p.message p.limit bytes list) × StructsWithin list bytes
structs_there p bytes entered there following step first list enters body step_is first_is is =
    let d = there.size.data_words in
    let q = there.size.pointers in
    let n = there.count in
    let w = entered.object.start.word in
    let segment = entered.object.start.segment in
    let room : room_of entered.object.body ≡ 1 + following = ap room_of body in
    let used : words_in entered.object.body ≡ 1 + n * (d + q) = ap words_in body in
    let plain : LinsjoarList = record { start = entered.start + 8; first = first; count = n; step = step; data_len = 8 * d; pointers = q; code = 0 } in
    let in_bytes : step / 8 ≡ 8 * (d + q) = omega (arith, step_is) in
    let in_words_is : step / 64 ≡ d + q = omega (arith, step_is) in
    let begins : first.word ≡ w + 1 + d = ap (λ (f : LinsjoarPlace). f.word) first_is ∙ omega arith in
    let words_are = ap (λ k. data_along bytes (entered.start + 8) k (8 * d) n) in_bytes
    ∙ data_there p bytes entered d q n 1 enters (omega (arith, used, enters.object.object_is.elements)) in
    let children = ap (λ (f : LinsjoarPlace). pointers_along f.segment first.word (step / 64) q n) first_is
    ∙ ap (λ k. pointers_along segment k (step / 64) q n) begins
    ∙ ap (λ k. pointers_along segment (w + 1 + d) k q n) in_words_is
    ∙ pointers_there segment (w + 1) d q n in
    let within : StructsWithin list bytes = subst (λ l. StructsWithin l bytes) (sym is)
    (λ i less.
    let most : suc i ≤ n = omega (arith, less) in
    let ends = mul-le-mul_left (d + q) most in
    let turned : i * (step / 8) ≡ i * (8 * (d + q)) = ap (λ k. i * k) in_bytes in
    omega (arith, ends, turned, used, enters.object.object_is.elements, enters.within)) in
    let read = structs_upgraded p entered.object there following (structs_by p.message p.limit bytes list) enters.object body
    (ap (structs_by p.message p.limit bytes) is
    ∙ list_as_structs p.message p.limit bytes plain _ q _ (p.nesting - 1) words_are refl children (ap (λ (f : LinsjoarPlace). f.nesting) first_is ∙ enters.nesting)) in
    (read, within)

pub pointers_as_structs : (p : Pointer) (bytes : List ℕ) (entered : Entered) (n : ℕ) (first : LinsjoarPlace) (list : LinsjoarList) → Enters p bytes entered
    → entered.object.body ≡ Pointers n
    → first ≡ record { word = entered.object.start.word + 0; segment = entered.object.start.segment; nesting = entered.nesting; is_there = 1 }
    → list ≡ record { start = entered.start; first = first; count = n; step = 64; data_len = 0; pointers = 1; code = 0 }
    → IsUpgradedStructs p (structs_by p.message p.limit bytes list) × StructsWithin list bytes
pointers_as_structs p bytes entered n first list enters body first_is is =
    let w = entered.object.start.word in
    let segment = entered.object.start.segment in
    let room : room_of entered.object.body ≡ n = ap room_of body in
    let plain : LinsjoarList = record { start = entered.start; first = first; count = n; step = 64; data_len = 0; pointers = 1; code = 0 } in
    let begin : entered.start ≡ entered.start + 8 * 0 = omega arith in
    let begins : first.word ≡ w + 0 + 0 = ap (λ (f : LinsjoarPlace). f.word) first_is ∙ omega arith in
    let words_are : data_along bytes entered.start 8 0 n ≡ elements_from (words_of entered.object.segment.now) (w + 0) 0 1 n =
    ap (λ k. data_along bytes k 8 0 n) begin ∙ data_there p bytes entered 0 1 n 0 enters (omega (arith, room)) in
    let children : pointers_along first.segment first.word 1 1 n ≡ pointer_places segment (w + 0) 0 1 n =
    ap (λ (f : LinsjoarPlace). pointers_along f.segment first.word 1 1 n) first_is
    ∙ ap (λ k. pointers_along segment k 1 1 n) begins
    ∙ pointers_there segment (w + 0) 0 1 n in
    let within : StructsWithin list bytes = subst (λ l. StructsWithin l bytes) (sym is) (λ i less. omega (arith, less, room, enters.within)) in
    let read = pointers_upgraded p entered.object n (elements_without_data 1 n) (structs_by p.message p.limit bytes list) enters.object body refl
    (ap (structs_by p.message p.limit bytes) is
    ∙ list_as_structs p.message p.limit bytes plain _ 1 _ (p.nesting - 1) words_are refl children (ap (λ (f : LinsjoarPlace). f.nesting) first_is ∙ enters.nesting)) in
    (read, within)
