-- An object's own words are put into a block.
use Rattle.std.proofs.Common.{arith}
use Rattle.capnp_wire.proofs.layouts.CopyBeginsWithOwnWordsLemmas.{opened_here, object_begins, null_is_copied}
use Rattle.capnp_wire.proofs.layout.pending.begin.Goals as goal

pub returns-in_default-clause-begun : goal.returns-in_default-clause-begun
returns-in_default-clause-begun g c = null_is_copied c.args.source.now.canonical c.in_default.ensures

pub put_data_words-requires-clause-many : goal.put_data_words-requires-clause-many
put_data_words-requires-clause-many g c = (opened_here c.requires.there c.in-Some.ensures.0 c.output_body-body.ensures.body).few_elements

pub put_data_words-requires-clause-fits : goal.put_data_words-requires-clause-fits
put_data_words-requires-clause-fits g c =
    let o = opened_here c.requires.there c.in-Some.ensures.0 c.output_body-body.ensures.body in omega (arith, o.kept.fits)

pub pointer_word-pointer-requires : goal.pointer_word-pointer-requires
pointer_word-pointer-requires g c =
    let o = opened_here c.requires.there c.in-Some.ensures.0 c.output_body-body.ensures.body in
    record { offset = omega (arith, o.kept.fits, c.requires.small); length = o.few }

pub returns-clause-begun : goal.returns-clause-begun
returns-clause-begun g c =
    let is = c.in-Some.ensures.0 in
    let o = opened_here c.requires.there is c.output_body-body.ensures.body in
    record {
      begins = object_begins c.requires.there o c.put_data_words.ensures.words c.put_data_words.ensures.len c.pointer_word-pointer.ensures;
      content = is.content;
      narrower = c.output_body-body.ensures.narrower;
      room = is.room;
      elements = is.elements;
      deep = c.in-Some.ensures.1;
    }
