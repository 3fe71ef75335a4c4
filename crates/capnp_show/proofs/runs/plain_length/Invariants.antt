-- The bytes so far are plain ones.
use Rattle.std.proofs.Common.{take}
use Rattle.std.specs.List.{All}
use Rattle.capnp_show.specs.Plain.{IsPlainByte}
use Rattle.capnp_show.proofs.runs.plain_length.Given as goal

abbrev pub invariant-loop-index : goal.invariant-loop-index
invariant-loop-index l = All IsPlainByte (take l.index l.bytes)
