-- The bytes so far belong to the tag, and the bits that are left give the others.
use Rattle.std.proofs.Common.{take}
use Rattle.capnp_frame.specs.Prelude.{IfKnown, Advances}
use Rattle.capnp_pack.proofs.words.MarkedByteReadLemmas.{MarksTo}
use Rattle.capnp_pack.proofs.group.read_marked.Given as goal

abbrev pub invariant-loop-byte : goal.invariant-loop-byte
invariant-loop-byte g l = let R = g.R.Read in
    IfKnown (R.unread l.initial.source) (R.unread l.source) (MarksTo l.tag l.bits (take l.byte-index l.word))
    × Advances R.unread R.failures R.same l.initial.source l.source
