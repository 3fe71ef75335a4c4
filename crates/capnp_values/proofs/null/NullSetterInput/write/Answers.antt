-- A null pointer points to no words.
use Rattle.std.proofs.Common.{◌-◌, ◌∙◌, sym}
use Rattle.capnp_wire.proofs.layouts.NullAndNumbersWrittenLemmas.{null_copied, tree_body_long}
use Rattle.capnp_values.proofs.values.NullValueLemmas.{IsNull}
use Rattle.capnp_values.proofs.null.NullSetterInput.write.Goals as goal

pub returns-clause-written : goal.returns-clause-written
returns-clause-written g c trees is = null_copied c.args._canonical trees (c.args.next - c.args._following) c.args.next _ is

pub returns-clause-long : goal.returns-clause-long
returns-clause-long g c trees is = tree_body_long IsNull c.args._canonical c.args.next _ (λ a b p q. p ∙ sym q) c.requires.value trees is
