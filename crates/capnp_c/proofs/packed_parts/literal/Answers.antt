-- A group of words as they are, by its count.
use Rattle.std.proofs.Common.{arith, refl, subst, sym, ◌∷◌}
use Rattle.capnp_pack.specs.Prelude.{FirstGroupError}
use Rattle.capnp_c.proofs.FirstGroupByHeadLemmas.{literal_cut_group, literal_group, literal_over}
use Rattle.capnp_c.proofs.packed_parts.literal.Goals as goal

pub returns-then-following-lt9 : goal.returns-then-following-lt9
returns-then-following-lt9 c = literal_cut_group c.args.most c.args.following.now c.if-following-lt9.true c.requires

pub returns-then-run-most : goal.returns-then-run-most
returns-then-run-most c =
    let over = literal_over _ c.args.most c.args.following.now refl (omega arith) c.if-following-lt9.false c.requires (omega (arith, c.if-run-most.true)) in
    (subst (FirstGroupError (255 ∷ c.args.following.now) c.args.most) (sym c.from_kind.ensures) over, c.from_kind.ensures)

pub returns : goal.returns
returns c = literal_group _ c.args.most c.args.following.now refl (omega arith) c.if-following-lt9.false (omega (arith, c.if-run-most.false))
