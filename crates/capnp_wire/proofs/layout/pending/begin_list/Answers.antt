-- Only the pointer to a list of pointers is known when its copy begins.
use Rattle.std.proofs.Common.{refl}
use Rattle.capnp_wire.proofs.layouts.NumbersCopiedPointerListBegunLemmas.{pointer_list_opened, pointer_list_begins}
use Rattle.capnp_wire.proofs.layout.pending.begin_list.Goals as goal

pub list_word-requires-clause-count : goal.list_word-requires-clause-count
list_word-requires-clause-count c = let w = c.requires.there.3 in (pointer_list_opened c.args.list.now w.can w.is).few

pub returns : goal.returns
returns c m place nesting canonical old can is = pointer_list_begins c.args.list.now can is c.list_word.ensures refl c.args.list.now.bound
