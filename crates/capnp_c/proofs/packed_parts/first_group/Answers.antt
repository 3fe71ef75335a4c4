-- The first group, by its tag.
use Rattle.std.proofs.Common.{rules, arith, subst, sym, ◌≡◌, ◌<◌, ◌∷◌, drop, get_or}
use Rattle.std.proofs.lemmas.List.{nil_from_length}
use lib.Count.{ones}
use Rattle.capnp_c.specs.Parts.{IsFirstGroup}
use Rattle.capnp_c.proofs.FirstGroupByHeadLemmas.{no_group, tagged_group}
use Rattle.capnp_c.proofs.packed_parts.first_group.Goals as goal

pub returns-then-is_empty : goal.returns-then-is_empty
returns-then-is_empty c = subst (λ l. IsFirstGroup l c.args.most _) (sym (nil_from_length c.args.shown.now (search rules))) (no_group c.args.most c.requires)

pub returns-in_default : goal.returns-in_default
returns-in_default c =
    let shown = c.args.shown.now in
    let tag = get_or shown 0 0 in
    let parts : shown ≡ tag ∷ drop 1 shown = search rules in
    let some : 0 < tag = search rules in
    let low : tag < 255 = search rules in
    let byte : get_or shown (ones tag) 0 < 256 = (let fits = c.type_inv.shown (ones tag) in omega (arith, fits)) in
    tagged_group tag c.args.most shown (drop 1 shown) parts some low c.requires byte
