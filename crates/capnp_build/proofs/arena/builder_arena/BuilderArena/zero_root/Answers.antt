-- The root's word and its block become zero, and no room is lost.
use Rattle.std.proofs.Common.{◌≡◌, List, [], ap, sym, subst, ◌∙◌}
use Rattle.std.proofs.lemmas.Result.{err_from_is_err_and}
use Rattle.capnp_build.specs.Prelude.{Space, HasLarge, pairs, Built}
use Rattle.capnp_build.proofs.arena.builder_arena.BuilderArena.zero_root.Goals as goal

pub returns-in_err-add-clause-available : goal.returns-in_err-add-clause-available
returns-in_err-add-clause-available g c = λ empty out.
    let p = err_from_is_err_and c.from_residual.result c.from_residual.ensures.1 in
    let none : c.self.inside.segments.spaces ≡ [] = ap (λ (v : Built g.row.A.Denot). v.spaces) c.self.view_is ∙ empty in
    let is = subst (λ (v : Built g.row.A.Denot). g.A.Allocator.out v.allocator (pairs v.spaces [])) (sym c.self.view_is)
    (subst (λ (l : List Space). g.A.Allocator.out c.args.self.now.allocator (pairs l [])) (sym empty) out) in
    rw (p.1, p.2) (λ taken. subst (λ (l : List Space). HasLarge 1 (pairs l [])) none (c.in_err-add.ensures.taken taken [] is))
