-- An element of a list of structs by its index: where its data and its pointers are; past the last one it has none.
use Rattle.std.proofs.Common.{◌≡◌, ℕ, zero, suc, ◌+◌, ◌*◌, ◌/◌, ◌<◌, ◌≤◌, List, Option, [], length, take, drop, slice_index_or, refl, sym, ap, ◌∙◌, arith, ◌++◌, length-append}
use Rattle.std.proofs.lemmas.List.{drop_all, get_or_past}
use Rattle.std.proofs.Math.Nat.{mul-le-mul_left}
use Rattle.std.proofs.Math.Seq.{take-nil, take-append_seam, drop-append-add}
use Rattle.capnp_layout.specs.Prelude.{places}
use Rattle.capnp_layout.specs.declared.place.Place.{Place}
use Rattle.capnp_layout.proofs.objects.SectionWordByIndexLemmas.{length-places}
use Rattle.capnp_wire.specs.Prelude.{Struct, element_of}
use Rattle.capnp_c.specs.Reading.{words_at, struct_by}
use Rattle.capnp_c.specs.ReadingLists.{data_along, pointers_along, structs_by}
use Rattle.capnp_c.specs.declared.reading.list.LinsjoarList.{LinsjoarList}
use Rattle.capnp_c.specs.declared.reading.structs.LinsjoarStruct.{LinsjoarStruct}

-- elements of structs, by their index
pub length-data_along : (bytes : List ℕ) (start step len n : ℕ) → length (data_along bytes start step len n) ≡ n
length-data_along bytes start step len zero = refl
length-data_along bytes start step len (suc n) = ap (λ (k : ℕ). suc k) (length-data_along bytes (start + step) step len n)

pub data_along_at : (bytes : List ℕ) (start step len n i : ℕ) → i < n → slice_index_or (data_along bytes start step len n) i [] ≡ words_at bytes (start + i * step) len
data_along_at bytes start step len zero i less = absurd (omega arith)
data_along_at bytes start step len (suc n) zero less =
    let here : start ≡ start + 0 * step = omega arith in
    ap (λ b. words_at bytes b len) here
data_along_at bytes start step len (suc n) (suc i) less =
    let next : start + step + i * step ≡ start + suc i * step = omega arith in
    data_along_at bytes (start + step) step len n i (omega arith) ∙ ap (λ b. words_at bytes b len) next

pub length-pointers_along : (segment word step p n : ℕ) → length (pointers_along segment word step p n) ≡ n * p
length-pointers_along segment word step p zero = omega arith
length-pointers_along segment word step p (suc n) =
    omega (arith, length-append (places segment word p) (pointers_along segment (word + step) step p n), length-places segment word p, length-pointers_along segment (word + step) step p n)

pub pointers_along_at : (segment word step p n i : ℕ) → i < n → take p (drop (i * p) (pointers_along segment word step p n)) ≡ places segment (word + i * step) p
pointers_along_at segment word step p zero i less = absurd (omega arith)
pointers_along_at segment word step p (suc n) zero less =
    let first = places segment word p in
    let none : 0 * p ≡ 0 = omega arith in
    let here : word ≡ word + 0 * step = omega arith in
    ap (λ k. take p (drop k (first ++ pointers_along segment (word + step) step p n))) none
    ∙ ap (λ k. take k (first ++ pointers_along segment (word + step) step p n)) (length-places segment word p)
    ∙ take-append_seam first (pointers_along segment (word + step) step p n)
    ∙ ap (λ k. places segment k p) here
pointers_along_at segment word step p (suc n) (suc i) less =
    let first = places segment word p in
    let others = pointers_along segment (word + step) step p n in
    let past : suc i * p ≡ length first + i * p = omega (arith, length-places segment word p) in
    let next : word + step + i * step ≡ word + suc i * step = omega arith in
    ap (λ k. take p (drop k (first ++ others))) past
    ∙ ap (take p) (drop-append-add first others (i * p))
    ∙ pointers_along_at segment (word + step) step p n i (omega arith)
    ∙ ap (λ k. places segment k p) next

module _ (message : List (List ℕ)) (limit : Option ℕ) (bytes : List ℕ) (list : LinsjoarList) (index : ℕ) (fields : LinsjoarStruct) (nesting : fields.first.nesting ≡ list.first.nesting) where
  make : List ℕ → List Place → ℕ → Struct
  make words children n = record { message = message; words = words; children = children; nesting = n; limit = limit }

  an_element : words_at bytes fields.start fields.data_len ≡ slice_index_or (structs_by message limit bytes list).elements index []
      → places fields.first.segment fields.first.word fields.pointers ≡ take list.pointers (drop (index * list.pointers) (structs_by message limit bytes list).children)
      → struct_by message limit bytes fields ≡ element_of (structs_by message limit bytes list) index
  unfolding make
  an_element words_are children_are =
      let children = places fields.first.segment fields.first.word fields.pointers in
      let there = slice_index_or (structs_by message limit bytes list).elements index [] in
      ap (λ ws. make ws children fields.first.nesting) words_are
      ∙ ap (λ cs. make there cs fields.first.nesting) children_are
      ∙ ap (make there (take list.pointers (drop (index * list.pointers) (structs_by message limit bytes list).children))) nesting

  pub no_element : fields.data_len ≡ 0 → fields.pointers ≡ 0 → list.count ≤ index → struct_by message limit bytes fields ≡ element_of (structs_by message limit bytes list) index
  no_element data_len pointers past =
      let all = structs_by message limit bytes list in
      let ends = mul-le-mul_left list.pointers past in
      let many = length-data_along bytes list.start (list.step / 8) list.data_len list.count in
      let places_many = length-pointers_along list.first.segment list.first.word (list.step / 64) list.pointers list.count in
      an_element
      (ap (λ n. words_at bytes fields.start n) data_len ∙ sym (get_or_past all.elements index [] (omega (arith, past, many))))
      (ap (λ n. places fields.first.segment fields.first.word n) pointers
      ∙ sym (ap (take list.pointers) (drop_all (index * list.pointers) all.children (omega (arith, places_many, ends))) ∙ take-nil list.pointers))

  pub some_element_there : index < list.count → fields.start ≡ list.start + index * (list.step / 8) → fields.data_len ≡ list.data_len
      → fields.first.word ≡ list.first.word + index * (list.step / 64) → fields.first.segment ≡ list.first.segment → fields.pointers ≡ list.pointers
      → struct_by message limit bytes fields ≡ element_of (structs_by message limit bytes list) index
  some_element_there less start data_len word segment pointers =
      an_element
      (ap (λ k. words_at bytes k fields.data_len) start ∙ ap (words_at bytes (list.start + index * (list.step / 8))) data_len
      ∙ sym (data_along_at bytes list.start (list.step / 8) list.data_len list.count index less))
      (ap (λ k. places k fields.first.word fields.pointers) segment ∙ ap (λ k. places list.first.segment k fields.pointers) word
      ∙ ap (places list.first.segment (list.first.word + index * (list.step / 64))) pointers
      ∙ sym (pointers_along_at list.first.segment list.first.word (list.step / 64) list.pointers list.count index less))
