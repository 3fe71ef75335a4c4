-- The pointers of an object are all the pointers of its shape.
use Rattle.std.proofs.Common.{◌∙◌}
use Rattle.capnp_layout.specs.Prelude.{words_of}
use Rattle.capnp_layout.proofs.pointers.KeptPointerPlacesBySectionLemmas.{kept_children}
use Rattle.capnp_layout.proofs.object.Object.pointers.Goals as goal

pub returns-clause-places : goal.returns-clause-places
returns-clause-places c = rw c.section_sizes.ensures at c.of.ensures.places ∙ kept_children (words_of c.args.self.now.segment.now) c.args.self.now.start c.args.self.now.body
