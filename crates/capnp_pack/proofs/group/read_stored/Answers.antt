-- What is copied and what is read after it are the bytes, joined.
use Rattle.std.proofs.Common.{rules}
use Rattle.capnp_pack.proofs.unpacking.UnpackerOutcomeFromSourceCallLemmas.{takes_err, takes_ok}
use Rattle.capnp_pack.proofs.unpacking.LiteralRunReadLemmas.{stored_given, stored_short}
use Rattle.capnp_pack.proofs.group.read_stored.Goals as goal

pub returns-in_err-read_exact : goal.returns-in_err-read_exact
returns-in_err-read_exact g c =
    takes_err {X = Unit {0}} g.R.Read g.met.R.Read.keeps _ _ _ _ _ _ _ c.from_residual-in_err-read_exact.ensures.1
    (stored_short _ g.R.Read.refuses c.in_ok-copied.copied c.copy_shown.new.buffer c.read_exact.new.buffer _ _ _ g.met.R.BufRead.plain_errors
    (search rules) (search rules) c.in_ok-copied.ensures.takes.found c.in_err-read_exact.ensures.errors) c.copy_shown.ensures.takes.asked.advances
    (record { failed = c.in_err-read_exact.ensures.failed; advances = c.read_exact.ensures.advances })

pub returns : goal.returns
returns g c =
    takes_ok g.R.Read g.met.R.Read.keeps _ _ _ _ _ _
    (stored_given g.R.Read.gives c.in_ok-copied.copied c.copy_shown.new.buffer c.read_exact.new.buffer _ _ _ g.met.R.BufRead.plain (search rules)
    (search rules) c.in_ok-copied.ensures.takes.found c.in_ok-read_exact.ensures.given) c.copy_shown.ensures.takes.asked.advances c.read_exact.ensures.advances
