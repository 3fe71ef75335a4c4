-- The kind of elements that a list is read as: its code, which lists are accepted, and null.
use Rattle.std.proofs.Common.{◌≡◌, ℕ, zero, suc, ◌-◌, ◌/◌, ◌<◌, List, Some, slice_get, refl, ap, arith}
use Rattle.capnp_layout.specs.Prelude.{code_of, nothing}
use Rattle.capnp_layout.specs.declared.element_size.ElementSize.{ElementSize}
use Rattle.capnp_layout.specs.declared.element_size.ElementSize.TheVariants.{Void, Bit, Byte, TwoBytes, FourBytes, EightBytes}
use Rattle.capnp_wire.specs.Prelude.{Pointer, Denotes, stepped_places, TakesFields, TakesFirstPointers, TakesAsStructs}
use Rattle.capnp_wire.proofs.views.UpgradedListReadAsNumbersLemmas.{fields_accepted}
use Rattle.capnp_wire.proofs.views.UpgradedListReadAsPointersLemmas.{first_pointers_accepted}
use Rattle.capnp_wire.proofs.views.UpgradedListReadAsStructsLemmas.{elements_accepted}
use Rattle.capnp_wire.proofs.views.RejectedExcludesAcceptedLemmas.{Decides, wrong_kind_once, wrong_kind_unlimited}
use Rattle.capnp_c.specs.Reading.{IsReadable}
use Rattle.capnp_c.specs.ReadingLists.{ShowsList, TakesList, ListFormError, numbers_along, numbers_in, data_along, pointers_along, pointers_by, structs_by}
use Rattle.capnp_c.specs.declared.reading.element_kind.ElementKind.{ElementKind}
use Rattle.capnp_c.specs.declared.reading.element_kind.ElementKind.TheVariants.{Numbers, Pointers, Structs}
use Rattle.capnp_c.specs.declared.reading.element_kind.TheConstants.{ELEMENT_KINDS}
use Rattle.capnp_c.specs.declared.reading.list.LinsjoarList.{LinsjoarList}
use Rattle.capnp_c.proofs.in_place.FollowedPointerResultLemmas.{readable}
use Rattle.capnp_c.proofs.in_place.EnteredObjectReadLemmas.{nothing_within}

abbrev kind_code : ElementKind → ℕ
kind_code (Numbers size) = code_of size
kind_code Pointers = 6
kind_code Structs = 7

code_is : (code : ℕ) (kind : ElementKind) → slice_get ELEMENT_KINDS code ≡ Some kind → code ≡ kind_code kind
code_is zero kind e = let same : Numbers Void ≡ kind = cc in ap kind_code same
code_is (suc zero) kind e = let same : Numbers Bit ≡ kind = cc in ap kind_code same
code_is (suc (suc zero)) kind e = let same : Numbers Byte ≡ kind = cc in ap kind_code same
code_is (suc (suc (suc zero))) kind e = let same : Numbers TwoBytes ≡ kind = cc in ap kind_code same
code_is (suc (suc (suc (suc zero)))) kind e = let same : Numbers FourBytes ≡ kind = cc in ap kind_code same
code_is (suc (suc (suc (suc (suc zero))))) kind e = let same : Numbers EightBytes ≡ kind = cc in ap kind_code same
code_is (suc (suc (suc (suc (suc (suc zero)))))) kind e = let same : Pointers ≡ kind = cc in ap kind_code same
code_is (suc (suc (suc (suc (suc (suc (suc zero))))))) kind e = let same : Structs ≡ kind = cc in ap kind_code same
code_is (suc (suc (suc (suc (suc (suc (suc (suc code)))))))) kind e = cc

pub code_of_numbers : (code : ℕ) (size : ElementSize) → slice_get ELEMENT_KINDS code ≡ Some (Numbers size) → code ≡ code_of size
code_of_numbers code size e = code_is code (Numbers size) e

pub code_of_pointers : (code : ℕ) → slice_get ELEMENT_KINDS code ≡ Some Pointers → code ≡ 6
code_of_pointers code e = code_is code Pointers e

pub code_of_structs : (code : ℕ) → slice_get ELEMENT_KINDS code ≡ Some Structs → code ≡ 7
code_of_structs code e = code_is code Structs e

pub few_codes : (size : ElementSize) → code_of size < 6
few_codes Void = omega arith
few_codes Bit = omega arith
few_codes Byte = omega arith
few_codes TwoBytes = omega arith
few_codes FourBytes = omega arith
few_codes EightBytes = omega arith

-- A list is read or rejected by its form
pub list_decides : (kind : ElementKind) → Decides (TakesList kind) (ListFormError kind)
list_decides kind = record {
  apart = λ form error form_errors. form_errors.0;
  once = λ form error other p q. wrong_kind_once error other p.1 q.1;
  unlimited = λ form error form_errors. wrong_kind_unlimited error form_errors.1;
}

pub list_taken : (kind : ElementKind) (p : Pointer) (bytes : List ℕ) (list : LinsjoarList) → ShowsList kind p bytes list → IsReadable p (TakesList kind)
list_taken (Numbers size) p bytes list shown =
    let read = shown.0 in
    readable p (TakesFields (code_of size)) read.0 (fields_accepted p (code_of size) (numbers_in (code_of size) bytes list) read) read.1 read.2.1
list_taken Pointers p bytes list read =
    readable p TakesFirstPointers read.shown.0 (first_pointers_accepted p (pointers_by p.message p.limit list) read) read.shown.1 read.shown.2.1
list_taken Structs p bytes list shown =
    let read = shown.0 in
    readable p TakesAsStructs read.shown.0 (elements_accepted p (structs_by p.message p.limit bytes list) read) read.shown.1 read.shown.2.2

pub shown_with_code : (kind : ElementKind) (p : Pointer) (bytes : List ℕ) (list : LinsjoarList) (code : ℕ) → ShowsList kind p bytes list → ShowsList kind p bytes (record list { code = code })
shown_with_code (Numbers size) p bytes list code shown = shown
shown_with_code Pointers p bytes list code shown = shown
shown_with_code Structs p bytes list code shown = shown

-- null has no elements
pub null_list : (kind : ElementKind) (p : Pointer) (bytes : List ℕ) (list : LinsjoarList) → Denotes p nothing → list.count ≡ 0 → list.first.nesting ≡ p.nesting - 1 → ShowsList kind p bytes list
null_list (Numbers size) p bytes list none count nesting =
    ((nothing, none, (ap (λ n. numbers_along bytes list.start 0 list.step (code_of size) n) count, nothing_within p)), λ i less some. absurd (omega (arith, less, count)))
null_list Pointers p bytes list none count nesting = record {
  same_message = refl;
  shown = (nothing, none, (ap (λ n. stepped_places list.first.segment list.first.word (list.step / 64) n) count, nothing_within p));
  nesting_below = nesting;
  same_limit = refl;
}
null_list Structs p bytes list none count nesting = (
  record {
    same_message = refl;
    shown = (
      nothing,
      none,
      (
        ap (λ n. data_along bytes list.start (list.step / 8) list.data_len n) count,
        ap (λ n. pointers_along list.first.segment list.first.word (list.step / 64) list.pointers n) count,
        nothing_within p,
      ),
    );
    nesting_below = nesting;
    same_limit = refl;
  },
  λ i less. absurd (omega (arith, less, count)),
)
