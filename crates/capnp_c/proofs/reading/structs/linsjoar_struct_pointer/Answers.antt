-- A pointer of the struct is one of its places; past the last one it has no place.
use Rattle.std.proofs.Common.{Option, refl, sym, ap, ◌∙◌, arith}
use Rattle.capnp_layout.specs.declared.place.Place.{Place}
use Rattle.capnp_layout.proofs.objects.SectionWordByIndexLemmas.{place_within, no_place_past}
use Rattle.capnp_wire.specs.Prelude.{Pointer}
use Rattle.capnp_c.specs.Reading.{pointer_by}
use Rattle.capnp_c.proofs.reading.structs.linsjoar_struct_pointer.Goals as goal

pub returns-then-index-fields : goal.returns-then-index-fields
returns-then-index-fields c =
    let fields = c.args.fields.now in
    record {
      found = λ zero message limit bytes.
          let pointer : Option Place → Pointer = λ place. record { message = message; place = place; nesting = fields.first.nesting; limit = limit } in
          ap (pointer_by message limit) c.nowhere-then-index-fields.ensures
          ∙ ap pointer (sym (no_place_past fields.first.segment fields.first.word fields.pointers c.args.index c.if-index-fields.true));
      accepted = λ any. refl;
      errors = λ below past. absurd (omega (arith, below, c.if-index-fields.true));
      stays = λ more. absurd (omega (arith, more));
    }

pub returns-in-Some : goal.returns-in-Some
returns-in-Some c =
    let fields = c.args.fields.now in
    record {
      found = λ zero message limit bytes.
          let pointer : Option Place → Pointer = λ place. record { message = message; place = place; nesting = fields.first.nesting; limit = limit } in
          ap (pointer_by message limit) c.in-Some.ensures.1
          ∙ ap pointer (sym (place_within fields.first.segment fields.first.word fields.pointers c.args.index c.if-index-fields.false));
      accepted = λ any. refl;
      errors = λ below past. absurd (omega (arith, past, c.in-Some.ensures.0));
      stays = λ more. absurd (omega (arith, more));
    }
