-- A list of structs without pointers has none.
use Rattle.std.proofs.Common.{sym}
use Rattle.capnp_show.proofs.ElementContainingPointerWordLemmas.{no_pointers}
use Rattle.capnp_show.proofs.tree.NodeRun.below.Goals as goal

pub returns-in-Structs : goal.returns-in-Structs
returns-in-Structs c = λ words small. rw (c.in-Structs.is, c.if-elements-eq0.true) (sym (no_pointers c.in-Structs.elements.count _ _ _))
