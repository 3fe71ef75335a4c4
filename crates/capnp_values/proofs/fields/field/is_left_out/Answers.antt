-- A value is left out in canonical form, where it is null, and nothing after it is kept.
use Rattle.std.proofs.Common.{arith}
use Rattle.capnp_layout.specs.Prelude.{none, tree}
use Rattle.capnp_values.proofs.structs.KeptPointerCountLemmas.{not_left_out, some_after, null_last}
use Rattle.capnp_values.proofs.fields.field.is_left_out.Goals as goal

pub returns-then-not-canonical : goal.returns-then-not-canonical
returns-then-not-canonical g c form children part = not_left_out c.args.canonical c.args.after form c.if-not-canonical.true

pub returns-then-after-gt0 : goal.returns-then-after-gt0
returns-then-after-gt0 g c form children part = some_after c.args.canonical c.args.after form (omega arith)

pub returns : goal.returns
returns g c form children part =
    null_last c.args.canonical c.args.after form c.is_null.result c.if-not-canonical.false (omega arith) (c.is_null.ensures (tree form children none) part.tree_is)
