-- A group of zero words, by its count.
use Rattle.std.proofs.Common.{rules, arith, refl, subst, sym, ◌∷◌}
use Rattle.std.proofs.lemmas.List.{nil_from_length}
use Rattle.capnp_pack.specs.Prelude.{FirstGroupError}
use Rattle.capnp_c.proofs.FirstGroupByHeadLemmas.{zeros_cut, zeros_group, zeros_over}
use Rattle.capnp_c.proofs.packed_parts.zeros.Goals as goal

pub returns-then-is_empty : goal.returns-then-is_empty
returns-then-is_empty c = zeros_cut c.args.most c.args.following.now (nil_from_length _ (search rules)) c.requires

pub returns-then-filled-most : goal.returns-then-filled-most
returns-then-filled-most c =
    let over = zeros_over _ c.args.most c.args.following.now refl (omega arith) (search rules) c.requires c.if-filled-most.true in
    (subst (FirstGroupError (0 ∷ c.args.following.now) c.args.most) (sym c.from_kind.ensures) over, c.from_kind.ensures)

pub returns : goal.returns
returns c = zeros_group _ c.args.most c.args.following.now refl (omega arith) (search rules) c.if-filled-most.false
