-- No pointers point to nothing.
use Rattle.std.proofs.Common.{ap, arith}
use Rattle.capnp_layout.specs.Prelude.{count}
use Rattle.capnp_values.proofs.structs.FieldWriteLemmas.{none_fields_written}
use Rattle.capnp_values.proofs.fields.no_fields.NoFieldsFields.write.Goals as goal

pub returns-clause-written : goal.returns-clause-written
returns-clause-written c =
    let r = c.requires.fields in
    none_fields_written _ c.args._canonical c.args._slot c.args._count c.args.next _ (omega (arith, r.some, ap count r.trees_are))
