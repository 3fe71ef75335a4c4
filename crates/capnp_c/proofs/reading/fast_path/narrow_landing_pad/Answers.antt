-- The pointer is a far one whose landing pad has one word.
use Rattle.capnp_layout.proofs.pointers.LandingPadTargetsAndErrorsLemmas.{is_far_word}
use Rattle.capnp_c.proofs.reading.fast_path.narrow_landing_pad.Goals as goal

pub returns : goal.returns
returns c = (is_far_word c.args.pointer c.in-Far.far c.in-Far.ensures c.if-far.false, c.in-Far.ensures.landing_pad_is)
