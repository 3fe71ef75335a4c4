-- A front as long as the whole is the whole.
use Rattle.capnp_layout.proofs.words.WholeSliceCopyLemmas.{length_of_front, front_is_whole}
use Rattle.capnp_layout.proofs.block.copy_bytes.Goals as goal

pub copy_from_slice-requires : goal.copy_from_slice-requires
copy_from_slice-requires c = length_of_front 16 c.args.to.now c.args.bytes.now c.requires

pub returns-in-16 : goal.returns-in-16
returns-in-16 c = front_is_whole 16 c.args.to.now c.args.bytes.now c.copy_from_slice.new.self c.requires c.in-16.is c.copy_from_slice.ensures.after

pub returns-in-24 : goal.returns-in-24
returns-in-24 c = front_is_whole 24 c.args.to.now c.args.bytes.now c.copy_from_slice-in-24.new.self c.requires c.in-24.is c.copy_from_slice-in-24.ensures.after
