-- An element is where the step leads; past the last one it is empty.
use Rattle.std.proofs.Common.{◌+◌, inl, inr, Some, refl, sym, ap, ◌∙◌, arith}
use Rattle.capnp_c.specs.declared.reading.place.LinsjoarPlace.{LinsjoarPlace}
use Rattle.capnp_c.specs.declared.reading.structs.LinsjoarStruct.{LinsjoarStruct}
use Rattle.capnp_c.proofs.in_place.ListByElementKindLemmas.{code_of_structs}
use Rattle.capnp_c.proofs.in_place.StructElementByIndexLemmas.{no_element, some_element_there}
use Rattle.capnp_c.proofs.reading.list_elements.linsjoar_list_struct.Goals as goal

pub returns-then-index-list : goal.returns-then-index-list
returns-then-index-list c =
    let list = c.args.list.now in
    let code = code_of_structs list.code (sym c.in-Some-Structs.ensures ∙ ap Some c.in-Some-Structs.field-0-is) in
    let fields = c.empty-then-index-list in
    let nesting = ap (λ (f : LinsjoarStruct). f.first.nesting) fields.ensures ∙ ap (λ (place : LinsjoarPlace). place.nesting) c.nowhere-then-index-list.ensures in
    record {
      found = λ zero. (
        code,
        λ message limit bytes. no_element message limit bytes list c.args.index fields.result nesting
            (ap (λ (f : LinsjoarStruct). f.data_len) fields.ensures) (ap (λ (f : LinsjoarStruct). f.pointers) fields.ensures) c.if-index-list.true,
      );
      accepted = λ is any. refl;
      within = λ zero bytes all. omega (arith, ap (λ (f : LinsjoarStruct). f.start + f.data_len) fields.ensures);
      other = λ not. absurd (not code);
      outside = λ less past. absurd (omega (arith, less, c.if-index-list.true));
      stays = λ more. absurd (omega (arith, more));
    }

pub returns : goal.returns
returns c =
    let list = c.args.list.now in
    let code = code_of_structs list.code (sym c.in-Some-Structs.ensures ∙ ap Some c.in-Some-Structs.field-0-is) in
    let first = c.in-Some-after.first in
    let place = c.in-Some-after.ensures.1 in
    let begin = c.in-Some.ensures in
    let fields : LinsjoarStruct = record { start = c.in-Some.start; data_len = list.data_len; first = first; pointers = list.pointers } in
    record {
      found = λ zero. (
        code,
        λ message limit bytes. some_element_there message limit bytes list c.args.index fields (ap (λ (p : LinsjoarPlace). p.nesting) place)
            c.if-index-list.false begin refl (ap (λ (p : LinsjoarPlace). p.word) place) (ap (λ (p : LinsjoarPlace). p.segment) place) refl,
      );
      accepted = λ is any. refl;
      within = λ zero bytes all. omega (arith, begin, all c.args.index c.if-index-list.false);
      other = λ not. absurd (not code);
      outside = λ less past. elim past [
        | inl far ↦ absurd (omega (arith, far, begin))
        | inr far ↦ absurd (omega (arith, far, c.in-Some-after.ensures.0))
      ];
      stays = λ more. absurd (omega (arith, more));
    }
