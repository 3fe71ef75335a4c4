-- The copy of a struct is the copy of its body.
use Rattle.capnp_layout.specs.Prelude.{words_of}
use Rattle.capnp_layout.proofs.pointers.LocalObjectIsAtLemmas.{local_struct_output}
use Rattle.capnp_layout.proofs.fast_path.LocalStruct.output.Goals as goal

pub returns-clause-body : goal.returns-clause-body
returns-clause-body c =
    local_struct_output c.args.canonical (words_of c.args.self.now.segment.now) c.args.self.now.start.word c.output_size.result c.args.self.now.size c.output_size.ensures.size
