-- The pointer sections of an object, with none where they keep no pointers.
use Rattle.std.proofs.Common.{sym, arith}
use Rattle.capnp_layout.proofs.pointers.KeptPointerPlacesBySectionLemmas.{kept_nothing, slots_nothing, kept_slots_first}
use Rattle.capnp_layout.proofs.pointer_slots.PointerSlots.new.Goals as goal

pub returns-then-kept-eq0-clause-places : goal.returns-then-kept-eq0-clause-places
returns-then-kept-eq0-clause-places c = sym (kept_nothing _ _ _ _ c.args.kept c.args.count c.then-kept-eq0.either)

pub returns-then-kept-eq0-clause-slots : goal.returns-then-kept-eq0-clause-slots
returns-then-kept-eq0-clause-slots c all = sym (slots_nothing _ _ _ c.args.kept c.args.count all c.then-kept-eq0.either)

pub returns-clause-places : goal.returns-clause-places
returns-clause-places c = kept_slots_first _ _ _ c.args.size.pointers c.args.kept c.args.count c.requires.kept (omega arith)
