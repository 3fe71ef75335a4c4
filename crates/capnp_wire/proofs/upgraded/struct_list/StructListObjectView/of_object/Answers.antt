-- The elements are the object's, by its kind.
use Rattle.std.proofs.Common.{arith}
use Rattle.capnp_wire.specs.Prelude.{pointer_of}
use Rattle.capnp_wire.proofs.views.UpgradedListReadAsStructsLemmas.{structs_upgraded, pointers_upgraded, struct_form_error}
use Rattle.capnp_wire.proofs.views.EnteredListShownOrRejectedLemmas.{few_structs, few_pointers}
use Rattle.capnp_wire.proofs.upgraded.struct_list.StructListObjectView.of_object.Goals as goal

pub returns-in-Structs : goal.returns-in-Structs
returns-in-Structs g c =
    let p = pointer_of g.S.ReaderSegments.segments c.args.reader.now in
    structs_upgraded p c.args.object.now c.in-Structs.elements c.in-Structs.field-1 _ c.requires c.in-Structs.is c.in_place.ensures

pub returns-in-Pointers : goal.returns-in-Pointers
returns-in-Pointers g c =
    let p = pointer_of g.S.ReaderSegments.segments c.args.reader.now in
    pointers_upgraded p c.args.object.now c.in-Pointers.count _ _ c.requires c.in-Pointers.is c.elements_without_data.ensures c.in_place-in-Pointers.ensures

pub returns-in-Struct : goal.returns-in-Struct
returns-in-Struct g c =
    let p = pointer_of g.S.ReaderSegments.segments c.args.reader.now in
    struct_form_error p c.args.object.now c.in-Struct.field-0 _ c.requires c.in-Struct.is c.wrong_kind.ensures

pub in_place-requires-clause-few : goal.in_place-requires-clause-few
in_place-requires-clause-few g c =
    let p = pointer_of g.S.ReaderSegments.segments c.args.reader.now in (few_structs p c.args.object.now c.in-Structs.elements c.in-Structs.field-1 c.requires c.in-Structs.is).0

pub in_place-requires-clause-few_words : goal.in_place-requires-clause-few_words
in_place-requires-clause-few_words g c =
    let p = pointer_of g.S.ReaderSegments.segments c.args.reader.now in (few_structs p c.args.object.now c.in-Structs.elements c.in-Structs.field-1 c.requires c.in-Structs.is).1

pub in_place-requires-in-Pointers-clause-few : goal.in_place-requires-in-Pointers-clause-few
in_place-requires-in-Pointers-clause-few g c =
    let p = pointer_of g.S.ReaderSegments.segments c.args.reader.now in
    rw c.elements_without_data.ensures (omega (arith, few_pointers p c.args.object.now c.in-Pointers.count c.requires c.in-Pointers.is))

pub in_place-requires-in-Pointers-clause-few_words : goal.in_place-requires-in-Pointers-clause-few_words
in_place-requires-in-Pointers-clause-few_words g c =
    let p = pointer_of g.S.ReaderSegments.segments c.args.reader.now in
    rw c.elements_without_data.ensures (omega (arith, few_pointers p c.args.object.now c.in-Pointers.count c.requires c.in-Pointers.is))
