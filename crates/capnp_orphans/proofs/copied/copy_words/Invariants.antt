-- The words so far are the words of the struct.
use Rattle.std.proofs.Common.{◌≡◌, ◌++◌, length, take, replicate}
use Rattle.capnp_wire.specs.Prelude.{struct_of}
use Rattle.capnp_orphans.proofs.copied.copy_words.Given as goal

abbrev pub invariant-loop-index : goal.invariant-loop-index
invariant-loop-index g l = take l.index l.words ≡ take l.index ((struct_of g.R.ReaderSegments.segments l.fields).words ++ replicate (length l.fn.words) 0)
