-- A list that is read as a list of structs or of pointers is one tree, as a value, or fails with one error.
use Rattle.std.proofs.Common.{◌≡◌, List, ℕ, inl, inr, sym, ◌∙◌}
use Rattle.capnp_frame.specs.declared.error.ErrorKind.{ErrorKind}
use Rattle.capnp_frame.specs.declared.message.segments.ReaderSegments.{Ghosts}
use Rattle.capnp_layout.specs.Prelude.{code_of, Trees, pointers}
use Rattle.capnp_wire.specs.Prelude.{struct_list_of, structs_form, pointers_in, upgraded_pointers_of, IsElementsValue, ElementsValueError, numbers_in_structs, IsPointerListValue, PointerListValueError}
use Rattle.capnp_wire.specs.declared.upgraded.pointer_list.PointerList.{PointerList}
use Rattle.capnp_wire.specs.declared.upgraded.struct_list.StructElements.{StructElements}
use Rattle.capnp_wire.specs.declared.upgraded.struct_list.StructElements.TheVariants.{InPlace, Numbers}
use Rattle.capnp_wire.proofs.views.UniqueValueTreeAndMeasureLemmas.{IsOne}
use Rattle.capnp_wire.proofs.views.ListValueMeasureLemmas.{one_of_list}
use Rattle.capnp_wire.proofs.views.NumberListMeasureLemmas.{one_of_numbers}

-- one that is read as a list of structs is one tree
pub one_of_elements : {S : Type 0} {ghosts : Ghosts S} (segments : S → List (List ℕ)) (elements : StructElements S ghosts) → IsOne (IsElementsValue segments elements) (ElementsValueError segments elements)
one_of_elements segments (InPlace list) = one_of_list (structs_form segments list) (pointers_in (struct_list_of segments list))
one_of_elements segments (Numbers elements) = one_of_numbers (code_of elements.size) (numbers_in_structs elements)

-- and so is one that is read as a list of pointers
one_error : {S : Type 0} (segments : S → List (List ℕ)) (list : PointerList S) (a b : ErrorKind) → PointerListValueError segments list a → PointerListValueError segments list b → a ≡ b
one_error segments list a b (inl x) (inl y) = (one_of_list pointers (upgraded_pointers_of segments list)).same_error a b x.1 y.1
one_error segments list a b (inl x) (inr y) = absurd (y.0 x.0)
one_error segments list a b (inr x) (inl y) = absurd (x.0 y.0)
one_error segments list a b (inr x) (inr y) = x.1 ∙ sym y.1

error_or_tree : {S : Type 0} (segments : S → List (List ℕ)) (list : PointerList S) (kind : ErrorKind) (trees : Trees) → PointerListValueError segments list kind → IsPointerListValue segments list trees → ⊥
error_or_tree segments list kind trees (inl x) t = (one_of_list pointers (upgraded_pointers_of segments list)).apart kind trees x.1 t.1
error_or_tree segments list kind trees (inr x) t = x.0 t.0

pub one_of_pointers : {S : Type 0} (segments : S → List (List ℕ)) (list : PointerList S) → IsOne (IsPointerListValue segments list) (PointerListValueError segments list)
one_of_pointers segments list = record {
  same_tree = λ a b x y. (one_of_list pointers (upgraded_pointers_of segments list)).same_tree a b x.1 y.1;
  same_error = one_error segments list;
  apart = error_or_tree segments list;
}
