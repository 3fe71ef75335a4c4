-- What is written of a list of structs is the body of its tree.
use Rattle.capnp_wire.specs.Prelude.{limit_of, struct_list_of, IsListTree, pointers_in, structs_form}
use Rattle.capnp_wire.proofs.layouts.NullAndNumbersWrittenLemmas.{tree_body_long}
use Rattle.capnp_wire.proofs.views.ListValueMeasureLemmas.{one_of_list}
use Rattle.capnp_wire.proofs.struct_list.ReaderSetterInputOwned.write.Goals as goal

pub returns-clause-written : goal.returns-clause-written
returns-clause-written g c trees is = c.write.ensures.written (limit_of c.args.self.now.limiter) trees is

pub returns-clause-long : goal.returns-clause-long
returns-clause-long g c trees is =
    let form = structs_form g.S.ReaderSegments.segments c.args.self.now in
    let list = pointers_in (struct_list_of g.S.ReaderSegments.segments c.args.self.now) in
    tree_body_long (IsListTree form list) c.args.canonical c.args.next _ (one_of_list form list).same_tree c.requires.value trees is
