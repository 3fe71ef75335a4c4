-- Each data section is put after the one before, with room for its pointers.
use Rattle.std.proofs.Common.{◌≡◌, ◌+◌, ◌-◌, ◌/◌, ◌<◌, length, sym, ◌∙◌, arith}
use Rattle.capnp_layout.specs.Prelude.{words_of}
use Rattle.capnp_layout.proofs.words.WordsOfBytesLemmas.{length-words_of}
use Rattle.capnp_wire.proofs.layouts.DataSectionWriteSequenceLemmas.{put_data_sections_next, put_no_data, fewer_elements}
use Rattle.capnp_wire.proofs.layout.data_words.put_data_sections.Goals as goal

pub returns-then-data_words-eq0-clause-words : goal.returns-then-data_words-eq0-clause-words
returns-then-data_words-eq0-clause-words g c = rw c.if-data_words-eq0.true (sym (put_no_data _ c.args.start _ _ c.args.elements.count c.args.next _))

pub sections-preserved : goal.sections-preserved
sections-preserved g c =
    let e = c.args.elements in
    let some : 0 < e.count - c.sections._section = omega arith in
    let less : e.count - c.sections._section - 1 ≡ e.count - (c.sections._section + 1) = omega arith in
    let so_far = c.sections.invariant in
    let words : c.words.result ≡ e.size.data_words + e.size.pointers = c.words.ensures in (
      rw (words, ← less) (put_data_sections_next (words_of c.args.segment.now) c.sections.from c.args.step e.size.data_words e.size.pointers (e.count - c.sections._section) c.sections.to (g.T.BlockItem.as_words c.sections.block)
          (g.T.BlockItem.as_words c.put_words.new.block) some
          c.requires.inside (omega (arith, so_far.2, length-words_of c.args.segment.now)) c.put_words.ensures.words ∙ so_far.0),
      c.put_words.ensures.len ∙ so_far.1,
      rw (← less) (fewer_elements c.sections.from c.args.step (e.count - c.sections._section) (length c.args.segment.now / 8) some so_far.2),
      rw (words, ← less) (omega (arith, c.put_words.ensures.len, so_far.1, fewer_elements c.sections.to (e.size.data_words + e.size.pointers) (e.count - c.sections._section) (length (g.T.BlockItem.as_words c.sections.block)) some so_far.3)),
    )
