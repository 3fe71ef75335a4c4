-- The list is of these structs; where they have another number of words, nothing is added.
use Rattle.capnp_c.proofs.ListArgumentsAddedLemmas.{nothing_adds, fitting_adds, same_structs}
use Rattle.capnp_c.proofs.building.lists.linsjoar_add_structs.Goals as goal

pub returns-in-None : goal.returns-in-None
returns-in-None c = nothing_adds _ _ _ _ c.args.builder.now c.args.region.now c.in-None.ensures

pub returns-in-Some : goal.returns-in-Some
returns-in-Some c =
    let known = c.in-Some.ensures in
    fitting_adds _ _ _ _ _ _ _ _ _ _ known.0
    (same_structs (record { data_words = c.args.data_words; pointers = c.args.pointers }) c.in-Some.list.size c.args.count c.in-Some.list.count c.args.elements.now c.in-Some.list.elements.now _ _ _ _ _ _ known.3 known.2 known.1
    c.add.ensures)
