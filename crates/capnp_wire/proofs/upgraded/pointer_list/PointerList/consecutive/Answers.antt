-- Pointers at a distance of one word follow one another.
use Rattle.std.proofs.Common.{◌≡◌, ℕ, List, inr, sym, ◌∙◌, ap, arith}
use Rattle.capnp_layout.specs.Prelude.{message_of}
use Rattle.capnp_wire.specs.Prelude.{limit_of, PointerList, stepped_places}
use Rattle.capnp_layout.specs.declared.place.Place.{Place}
use Rattle.capnp_wire.proofs.views.UpgradedListReadAsPointersLemmas.{stepped_by_one}
use Rattle.capnp_wire.proofs.upgraded.pointer_list.PointerList.consecutive.Goals as goal

pub returns : goal.returns
returns g c =
    let self = c.args.self.now in
    let one : self.step ≡ 1 = omega (arith, c.if-self-ne1.false) in
    let list : List Place → PointerList = λ children. record {
      message = message_of (g.S.ReaderSegments.segments self.segments.now);
      children = children;
      nesting = self.nesting;
      limit = limit_of self.limiter;
    } in (
      inr one,
      c.run-2.ensures ∙ ap list (sym (stepped_by_one self.first.segment self.first.word self.count)
          ∙ ap (λ (k : ℕ). stepped_places self.first.segment self.first.word k self.count) (sym one)),
    )
