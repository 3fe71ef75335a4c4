-- The elements of a list of numbers that an object is.
use Rattle.capnp_wire.proofs.views.EnteredObjectShownLemmas.{numbers_form, other_than_numbers}
use Rattle.capnp_wire.proofs.object_content.object_numbers.Goals as goal

pub returns-in-Some : goal.returns-in-Some
returns-in-Some c = (numbers_form c.args.object.now c.args.size c.in-Some.count _ c.in-Some.ensures c.words_at.ensures.elements, c.words_at.ensures.len)

pub returns-in-None : goal.returns-in-None
returns-in-None c = other_than_numbers c.args.object.now c.args.size _ c.in-None.ensures c.wrong_kind.ensures
