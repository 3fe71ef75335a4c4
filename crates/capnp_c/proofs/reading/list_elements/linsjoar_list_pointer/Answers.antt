-- An element is one of the places; past the last one it has no place.
use Rattle.std.proofs.Common.{◌/◌, Option, Some, refl, sym, ap, ◌∙◌, arith}
use Rattle.std.proofs.lemmas.Option.{slice_get_past}
use Rattle.capnp_layout.specs.declared.place.Place.{Place}
use Rattle.capnp_wire.specs.Prelude.{Pointer, stepped_places}
use Rattle.capnp_wire.proofs.views.UpgradedListReadAsPointersLemmas.{stepped_within, length-stepped_places}
use Rattle.capnp_c.specs.Reading.{pointer_by}
use Rattle.capnp_c.proofs.in_place.ListByElementKindLemmas.{code_of_pointers}
use Rattle.capnp_c.proofs.reading.list_elements.linsjoar_list_pointer.Goals as goal

pub returns-then-index-list : goal.returns-then-index-list
returns-then-index-list c =
    let list = c.args.list.now in
    let code = code_of_pointers list.code (sym c.in-Some-Pointers.ensures ∙ ap Some c.in-Some-Pointers.field-0-is) in
    let step = list.step / 64 in
    let many = length-stepped_places list.first.segment list.first.word step list.count in
    record {
      found = λ zero. (
        code,
        λ message limit.
            let pointer : Option Place → Pointer = λ place. record { message = message; place = place; nesting = list.first.nesting; limit = limit } in
            ap (pointer_by message limit) c.nowhere-then-index-list.ensures
            ∙ ap pointer (sym (slice_get_past (stepped_places list.first.segment list.first.word step list.count) c.args.index (omega (arith, many, c.if-index-list.true)))),
      );
      accepted = λ is any. refl;
      other = λ not. absurd (not code);
      outside = λ less past. absurd (omega (arith, less, c.if-index-list.true));
      stays = λ more. absurd (omega (arith, more));
    }

pub returns-in-Some : goal.returns-in-Some
returns-in-Some c =
    let list = c.args.list.now in
    let code = code_of_pointers list.code (sym c.in-Some-Pointers.ensures ∙ ap Some c.in-Some-Pointers.field-0-is) in
    let step = list.step / 64 in
    record {
      found = λ zero. (
        code,
        λ message limit.
            let pointer : Option Place → Pointer = λ place. record { message = message; place = place; nesting = list.first.nesting; limit = limit } in
            ap (pointer_by message limit) c.in-Some.ensures.1
            ∙ ap pointer (sym (stepped_within list.first.segment list.first.word step list.count c.args.index c.if-index-list.false)),
      );
      accepted = λ is any. refl;
      other = λ not. absurd (not code);
      outside = λ less past. absurd (omega (arith, past, c.in-Some.ensures.0));
      stays = λ more. absurd (omega (arith, more));
    }
