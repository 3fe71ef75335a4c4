-- What is written of a list of pointers is the body of its tree.
use Rattle.capnp_layout.specs.Prelude.{pointers}
use Rattle.capnp_wire.specs.Prelude.{limit_of, pointer_list_of, IsListTree}
use Rattle.capnp_wire.proofs.layouts.NullAndNumbersWrittenLemmas.{tree_body_long}
use Rattle.capnp_wire.proofs.views.ListValueMeasureLemmas.{one_of_list}
use Rattle.capnp_wire.proofs.any_pointer_list.ReaderSetterInputOwned.write.Goals as goal

pub returns-clause-written : goal.returns-clause-written
returns-clause-written g c trees is = c.write.ensures.written (limit_of c.args.self.now.limiter) trees is

pub returns-clause-long : goal.returns-clause-long
returns-clause-long g c trees is =
    let list = pointer_list_of g.S.ReaderSegments.segments c.args.self.now in
    tree_body_long (IsListTree pointers list) c.args.canonical c.args.next _ (one_of_list pointers list).same_tree c.requires.value trees is
