-- Nothing is left where no pointer is left in this section, and there is no further section.
use Rattle.std.proofs.Common.{◌≡◌, arith}
use Rattle.std.proofs.lemmas.Bool.Decides.{nat_tests}
use Rattle.capnp_layout.proofs.pointers.KeptPointerPlacesBySectionLemmas.{no_slot_left, no_places_none_left}
use Rattle.capnp_layout.proofs.pointer_slots.PointerSlots.is_empty.Goals as goal

pub returns-then-self-eq0 : goal.returns-then-self-eq0
returns-then-self-eq0 c = (
  λ t. (let done : c.args.self.now.more ≡ 0 = grind (arith, nat_tests) in
      no_slot_left _ _ c.args.self.now.here _ _ c.args.self.now.more c.if-self-eq0.true done),
  λ e. (let none = no_places_none_left _ _ c.args.self.now.here _ _ c.args.self.now.more c.args.self.now.some e in
      let done : c.args.self.now.more ≡ 0 = omega arith in grind (arith, nat_tests)),
)
