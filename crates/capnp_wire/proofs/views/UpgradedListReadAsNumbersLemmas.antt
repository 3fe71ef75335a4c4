-- Lists that are read as lists of numbers, also of structs, whose first fields are the numbers: which are
-- accepted, and what is read of a first field.
use Rattle.std.proofs.lemmas.List.{length-map, get_or-map, get_or-take, get_or-drop}
use Rattle.std.proofs.Common.{◌≡◌, ℕ, zero, suc, ◌+◌, ◌*◌, ◌/◌, ◌%◌, ◌^◌, ◌<◌, ◌≤◌, List, [], length, drop, slice_index_or, sym, ◌∙◌, ap, arith}
use Rattle.capnp_layout.specs.Prelude.{words_from, width, Form, null, struct, numbers, pointers, structs, elements_from}
use Rattle.capnp_wire.specs.Prelude.{Pointer, Accepts, Reads, first_fields, ReadsAsNumbers, TakesFields, FieldsFormError}
use Rattle.capnp_layout.proofs.objects.StructElementPlaceLemmas.{struct_within}
use Rattle.capnp_layout.proofs.trees.ReadTreeSizesAndWordsBoundedLemmas.{length-elements_from}
use Rattle.capnp_wire.proofs.views.RejectedExcludesAcceptedLemmas.{Decides, wrong_kind_once, wrong_kind_unlimited}

pub fields_decide : (code : ℕ) → Decides (TakesFields code) (FieldsFormError code)
fields_decide code = record {
  apart = λ form kind form_errors. form_errors.0;
  once = λ form kind other p q. wrong_kind_once kind other p.1 q.1;
  unlimited = λ form kind form_errors. wrong_kind_unlimited kind form_errors.1;
}

fields_taken : (form : Form) (code : ℕ) (values : List ℕ) → ReadsAsNumbers code form values → TakesFields code form
fields_taken null code values t = tt
fields_taken (struct words) code values t = t
fields_taken (numbers there are) code values t = t.0
fields_taken pointers code values t = t
fields_taken (structs d p elements) code values t = t.0

pub fields_accepted : (p : Pointer) (code : ℕ) (values : List ℕ) → Reads p (λ form. ReadsAsNumbers code form values) → Accepts p (TakesFields code)
fields_accepted p code values read = (read.0, read.1, fields_taken read.0.form code values read.2.0)

-- the first field of a struct is the low bits of its first data word
low_bits : (words : List ℕ) (s d w word : ℕ) → w ≤ 64 * d → word ≡ slice_index_or words s 0 → word / 2 ^ (w * 0 % 64) % 2 ^ w ≡ slice_index_or (words_from words s d) 0 0 % 2 ^ w
low_bits words s zero w word inside is =
    let none : w ≡ 0 = omega arith in
    rw none (omega arith)
low_bits words s (suc d) w word inside is =
    let first : w * 0 % 64 ≡ 0 = omega arith in
    let there : word ≡ slice_index_or (words_from words s (suc d)) 0 0 =
    is ∙ ap (λ (k : ℕ). slice_index_or words k 0) (omega arith) ∙ sym (get_or-drop s words 0 0) ∙ sym (get_or-take (suc d) (drop s words) 0 0 (omega arith)) in
    let whole : word / 2 ^ (w * 0 % 64) ≡ word = ap (λ (k : ℕ). word / 2 ^ k) first ∙ omega arith in
    ap (λ (k : ℕ). k % 2 ^ w) (whole ∙ there)

pub first_field_read : (words : List ℕ) (first d p n i step code word value : ℕ) → i < length (first_fields code (elements_from words first d p n)) → step ≡ d + p → width code ≤ 64 * d
    → word ≡ slice_index_or words (first + i * step) 0 → value ≡ word / 2 ^ (width code * 0 % 64) % 2 ^ width code
    → value ≡ slice_index_or (first_fields code (elements_from words first d p n)) i 0
first_field_read words first d p n i step code word value within step_is inside word_is value_is =
    let elements = elements_from words first d p n in
    let field : List ℕ → ℕ = λ element. slice_index_or element 0 0 % 2 ^ width code in
    let fewer : i < length elements = omega (arith, within, length-map elements field) in
    let is_one : i < n = omega (arith, fewer, length-elements_from words first d p n) in
    let at : word ≡ slice_index_or words (first + i * (d + p)) 0 = word_is ∙ ap (λ (k : ℕ). slice_index_or words (first + i * k) 0) step_is in
    value_is
    ∙ low_bits words (first + i * (d + p)) d (width code) word inside at
    ∙ ap field (sym (struct_within words first d p n i is_one))
    ∙ sym (get_or-map field elements i [] 0 fewer)
