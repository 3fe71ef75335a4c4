-- The root is cleared first, then the value is measured and placed.
use Rattle.std.proofs.lemmas.Result.{err_from_is_err_and}
use Rattle.capnp_build.proofs.outcomes.SetRootLemmas.{sets_root, sets_root_unmeasured}
use Rattle.capnp_build.proofs.arena.builder_arena.BuilderArena.set_root.Goals as goal

pub returns : goal.returns
returns g c =
    sets_root g.A.Allocator _ _ _ _ _ c.in_ok-words.words c.put.result g.met.A.Allocator.keeps c.in_ok-clear_root.ensures c.in_ok-words.ensures.returned
    (λ kind words_error. c.in_ok-words.ensures.exact kind words_error)
    (λ other has. let same = c.in_ok-words.ensures.found other has in cc)
    c.put.ensures

pub returns-in_err-words : goal.returns-in_err-words
returns-in_err-words g c =
    let p = err_from_is_err_and c.from_residual-in_err-words.result c.from_residual-in_err-words.ensures.1 in
    rw (p.1, p.2) (sets_root_unmeasured g.A.Allocator (g.V.SetterInput.has_tree c.args.value.now) (g.V.SetterInput.fails c.args.value.now) _ _ _ c.in_ok-clear_root.ensures
    c.in_err-words.ensures.returned c.in_err-words.ensures.exact (λ words has. let same = c.in_err-words.ensures.found words has in absurd (cc)))
