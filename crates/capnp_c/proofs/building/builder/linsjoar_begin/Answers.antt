-- The first word of the segment is zero.
use Rattle.std.proofs.Common.{◌∙◌, ◌≤◌, ℕ, List, take, length, ap, sym, subst, arith, length-drop}
use Rattle.std.proofs.lemmas.List.{take_rest}
use Rattle.capnp_orphans.specs.Regions.{IsUsed}
use Rattle.capnp_c.proofs.RegionAfterTableLemmas.{after_table, whole_after_table, begun, not_begun}
use Rattle.capnp_c.proofs.building.builder.linsjoar_begin.Goals as goal

pub returns-then-room : goal.returns-then-room
returns-then-room c = rw c.number.ensures (not_begun c.args.region.now c.if-room.true)

pub returns : goal.returns
returns c =
    let region : List ℕ = c.args.region.now in
    let enough : 8 ≤ length c.args.region.now = omega (arith, c.if-room.false) in
    let is = after_table c.args.region.now c.begin.new.region enough in
    begun c.args.region.now _ c.if-room.false (whole_after_table c.args.region.now c.begin.new.region enough (c.begin.ensures.len ∙ ap (λ (l : List ℕ). length l) (take_rest c.args.region.now 8) ∙ length-drop 8 c.args.region.now))
    (ap (λ (l : List ℕ). take 8 l) is ∙ c.begin.ensures.zero) (subst (λ (l : List ℕ). IsUsed l 8) (sym is) c.begin.ensures.used)
