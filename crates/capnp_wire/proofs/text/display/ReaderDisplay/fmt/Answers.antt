-- Text that is UTF-8 is printed unchanged.
use Rattle.std.proofs.lemmas.Str.{utf8_lossy-IsUtf8}
use Rattle.capnp_wire.proofs.text.display.ReaderDisplay.fmt.Goals as goal

pub returns-in-Ok-clause-writes : goal.returns-in-Ok-clause-writes
returns-in-Ok-clause-writes g c =
    let read = c.in-Ok.ensures in rw (utf8_lossy-IsUtf8 _ read.1, ← read.0) c.pad.ensures.writes
