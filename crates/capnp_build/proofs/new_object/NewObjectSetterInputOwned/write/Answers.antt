-- A block of zeros is a new object.
use Rattle.std.proofs.Common.{◌-◌, ◌∙◌, ap, arith}
use Rattle.capnp_build.specs.Prelude.{body_pointer_word, words_of_body}
use Rattle.capnp_build.proofs.layouts.ZeroBlockIsNewObjectLemmas.{new_object_written, new_object_long}
use Rattle.capnp_build.proofs.new_object.NewObjectSetterInputOwned.write.Goals as goal

pub returns-clause-written : goal.returns-clause-written
returns-clause-written c =
    new_object_written c.args.self.now c.args.canonical (c.args.next - c.args.following) c.args.next c.pointer_word.result _ c.args._block.now c.requires.value c.requires.free
    (c.pointer_word.ensures.word ∙ ap (body_pointer_word (c.args.next - c.args.following)) c.output-body.ensures.body)
    (omega (arith, c.words.ensures.words, ap words_of_body c.output-body.ensures.body))

pub returns-clause-long : goal.returns-clause-long
returns-clause-long c = new_object_long c.args.self.now c.args.canonical c.args.next _ c.requires.value
