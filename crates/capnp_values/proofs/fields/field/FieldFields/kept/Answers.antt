-- Fields keep one pointer more, or leave the first value out.
use Rattle.std.proofs.Common.{◌∙◌, sym}
use Rattle.capnp_values.proofs.structs.KeptPointerCountLemmas.{kept_left_out, kept_left_in}
use Rattle.capnp_values.proofs.fields.field.FieldFields.kept.Goals as goal

pub returns-then-is_left_out-clause-kept : goal.returns-then-is_left_out-clause-kept
returns-then-is_left_out-clause-kept g c trees is =
    kept_left_out c.args.canonical is.form is.children is.rest trees c.kept-rest.result is.whole (c.kept-rest.ensures.kept is.rest is.others)
    (sym (c.is_left_out.ensures is.form is.children is.part) ∙ c.if-is_left_out.true)

pub returns-clause-kept : goal.returns-clause-kept
returns-clause-kept g c trees is =
    kept_left_in c.args.canonical is.form is.children is.rest trees c.kept-rest.result is.whole (c.kept-rest.ensures.kept is.rest is.others)
    (sym (c.is_left_out.ensures is.form is.children is.part) ∙ c.if-is_left_out.false)
