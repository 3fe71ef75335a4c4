-- The kind is the one of what the pointer points to.
use Rattle.std.proofs.Common.{◌∙◌, refl, ap, subst, arith}
use Rattle.capnp_frame.specs.Prelude.{kind_number}
use Rattle.capnp_wire.specs.Prelude.{Shows, IsInvalidPointer}
use Rattle.capnp_c.specs.Options.{limit_of_number}
use Rattle.capnp_c.specs.Reading.{pointer_read, HasKind}
use Rattle.capnp_c.proofs.in_place.FollowedPointerResultLemmas.{same_pointer, invalid_denotes_nothing, one_invalid, kind_positive}
use Rattle.capnp_c.proofs.reading.entered.linsjoar_kind.Goals as goal

pub returns-in-Ok : goal.returns-in-Ok
returns-in-Ok c =
    let known = c.in-Some.ensures in
    let p = pointer_read c.args.reader.now c.args.bytes.now c.args.pointer.now in
    let same = same_pointer c.in-Some.segments c.args.reader.now c.args.bytes.now c.args.pointer.now known.1 known.2 known.3 in
    let shown = subst (λ q. Shows q (λ shape. HasKind shape.form c.in-Ok.found_kind c.in-Ok.found_code)) same
    (c.in-Ok.ensures (limit_of_number c.args.reader.now.words_left)) in
    record {
      no_table = λ none. absurd (none known.0);
      found = λ zero. (known.0, shown);
      accepted = λ table any. refl;
      errors = λ table error invalid. absurd (invalid_denotes_nothing p error shown.0 invalid shown.1);
      stays = λ more. absurd (omega (arith, more));
    }

pub returns-in-Err : goal.returns-in-Err
returns-in-Err c =
    let known = c.in-Some.ensures in
    let kind = c.in-Err.error.kind in
    let p = pointer_read c.args.reader.now c.args.bytes.now c.args.pointer.now in
    let same = same_pointer c.in-Some.segments c.args.reader.now c.args.bytes.now c.args.pointer.now known.1 known.2 known.3 in
    let own = subst (λ q. IsInvalidPointer q kind) same (c.in-Err.ensures (limit_of_number c.args.reader.now.words_left)) in
    record {
      no_table = λ none. absurd (none known.0);
      found = λ zero. absurd (omega (arith, zero, c.number.ensures, kind_positive kind));
      accepted = λ table there. absurd (invalid_denotes_nothing p kind there.0 own there.1);
      errors = λ table error invalid. c.number.ensures ∙ ap kind_number (one_invalid p kind error own invalid);
      stays = λ more. (refl, refl);
    }
