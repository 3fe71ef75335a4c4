-- The digits of the bytes so far are written.
use Rattle.std.proofs.Common.{take}
use Rattle.std.specs.Fmt.{HasWritten, IsPlainFormatter}
use Rattle.capnp_wire.specs.Prelude.{hex_digits}
use Rattle.capnp_wire.proofs.data.hex.HexDisplay.fmt.Given as goal

abbrev pub invariant-loop-byte : goal.invariant-loop-byte
invariant-loop-byte g l =
    IsPlainFormatter l.fn.f
    → HasWritten g.W.Write.write_str_gives l.fn.f (hex_digits (take l.byte-index l.byte-items)) l.f
