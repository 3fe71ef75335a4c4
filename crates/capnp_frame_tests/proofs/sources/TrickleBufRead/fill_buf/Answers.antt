-- What is shown is a front of what is unread.
use Rattle.std.proofs.Common.{refl, le_refl}
use Rattle.capnp_pack.proofs.unpacking.ShownBytesAreFrontOfSliceLemmas.{front_taken, none_shown}
use Rattle.capnp_frame_tests.proofs.sources.TrickleBufRead.fill_buf.Goals as goal

pub returns : goal.returns
returns c = (
  (refl, λ _. tt, record { kept = refl; shows = refl; failed = tt; counted = le_refl 0; same_source = tt }),
  record {
    front = front_taken _ _;
    end = none_shown _ _ _ c.min-self.ensures c.args.self.now.some;
    plain = tt;
    after_borrow = tt;
  },
)
