-- The words of a list of numbers are its copy.
use Rattle.std.proofs.Common.{arith}
use Rattle.capnp_wire.proofs.layouts.NumbersCopiedPointerListBegunLemmas.{number_list_opened, number_list_copied}
use Rattle.capnp_wire.proofs.layout.pending.copy_list.Goals as goal

pub put_elements-requires-clause-room : goal.put_elements-requires-clause-room
put_elements-requires-clause-room g c =
    let w = c.requires.there.1 in
    let o = number_list_opened c.args.list.now w.can w.is in omega (arith, o.kept.fits)

pub list_word-requires : goal.list_word-requires
list_word-requires g c =
    let w = c.requires.there.1 in
    let o = number_list_opened c.args.list.now w.can w.is in
    record { offset = omega (arith, c.requires.small, o.kept.fits); code = omega (arith, c.code.ensures.few); count = o.few }

pub returns-clause-copied : goal.returns-clause-copied
returns-clause-copied g c m place nesting canonical can is =
    number_list_copied c.args.list.now can is c.put_elements.ensures.words c.put_elements.ensures.len (rw c.code.ensures.code at c.list_word.ensures) (omega (arith, c.words.ensures))
