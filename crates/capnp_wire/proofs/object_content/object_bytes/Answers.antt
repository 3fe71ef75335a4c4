-- The bytes of an object are the elements of a list of bytes.
use Rattle.capnp_layout.specs.declared.element_size.ElementSize.TheVariants.{Byte}
use Rattle.capnp_wire.proofs.views.EnteredObjectShownLemmas.{numbers_form, other_than_numbers}
use Rattle.capnp_wire.proofs.object_content.object_bytes.Goals as goal

pub returns-in-Some : goal.returns-in-Some
returns-in-Some c = numbers_form c.args.object.now Byte c.in-Some.count _ c.in-Some.ensures c.bytes_at.ensures

pub returns-in-None : goal.returns-in-None
returns-in-None c = other_than_numbers c.args.object.now Byte _ c.in-None.ensures c.wrong_kind.ensures
