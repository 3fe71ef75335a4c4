-- The words of a new object.
use Rattle.std.proofs.Common.{false, ap, ◌∙◌}
use Rattle.capnp_build.specs.Prelude.{words_of_body}
use Rattle.capnp_build.proofs.layouts.ZeroBlockIsNewObjectLemmas.{new_object_words}
use Rattle.capnp_build.proofs.new_object.NewObject.words.Goals as goal

pub returns : goal.returns
returns c = new_object_words c.args.self.now false c.words.result c.output-body.ensures.whole (c.words.ensures.words ∙ ap words_of_body c.output-body.ensures.body) c.words.ensures.bound
