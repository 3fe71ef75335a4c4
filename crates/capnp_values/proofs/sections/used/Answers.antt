-- Words are left out from the end on while they are zero.
use Rattle.std.proofs.Common.{◌-◌, ◌∙◌, slice_index_or, refl, arith}
use Rattle.capnp_values.proofs.structs.DataWordWriteLemmas.{here_used, here_unused}
use Rattle.capnp_values.proofs.sections.used.Goals as goal

pub returns-then-words-left-ne0 : goal.returns-then-words-left-ne0
returns-then-words-left-ne0 c =
    here_used c.args.words.now c.words.left (slice_index_or c.args.words.now (c.words.left - 1) 0) (omega arith) (omega (arith, c.words.invariant.1)) refl (omega arith) ∙ c.words.invariant.0

pub words-preserved : goal.words-preserved
words-preserved c =
    (here_unused c.args.words.now c.words.left (omega arith) (omega (arith, c.words.invariant.1)) (omega arith) ∙ c.words.invariant.0, omega (arith, c.words.invariant.1))
