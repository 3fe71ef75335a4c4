-- The bytes are one tree.
use Rattle.std.proofs.Common.{sym, ◌∙◌}
use Rattle.capnp_wire.specs.Prelude.{IsTextTree}
use Rattle.capnp_wire.proofs.layouts.NullAndNumbersWrittenLemmas.{tree_body_long}
use Rattle.capnp_wire.proofs.text.RefStrSetterInputOwned.write.Goals as goal

pub returns-clause-long : goal.returns-clause-long
returns-clause-long c trees is = tree_body_long (IsTextTree c.args.self.now.now) c.args._canonical c.args.next _ (λ a b x y. x.1 ∙ sym y.1) c.requires.value trees is
