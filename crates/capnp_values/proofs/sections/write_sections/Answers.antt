-- The data words that are kept, and then the pointers.
use Rattle.std.proofs.Common.{◌≡◌, ◌+◌, ◌-◌, ◌*◌, ◌≤◌, ◌∙◌, ℕ, List, length, take, drop, subst, ap, arith, length-take, length-drop}
use Rattle.capnp_layout.specs.Prelude.{words_of, put}
use Rattle.capnp_layout.proofs.words.WordsOfBytesLemmas.{length-words_of}
use Rattle.capnp_values.specs.Fields.{CanWriteFields, AreFieldsWritten}
use Rattle.capnp_values.proofs.structs.DataWordWriteLemmas.{data_is_put}
use Rattle.capnp_values.proofs.sections.write_sections.Goals as goal

-- as many as are kept
kept_long : (d most : ℕ) (words there : List ℕ) → there ≡ words → length words ≡ most → d ≤ most → length (take d there) ≡ d
kept_long d most words there is long le = omega (arith, length-take d there, ap (λ (l : List ℕ). length l) is, long, le)

pub slice_bounds-put_words-end : goal.slice_bounds-put_words-end
slice_bounds-put_words-end g c = omega (arith, c.requires.place.before_it, c.requires.place.can.fits, length-words_of c.args.block.now)

pub put_words-requires : goal.put_words-requires
put_words-requires g c =
    let long = kept_long c.args.kept.data_words g.E.Element.data_words (g.E.Element.words c.args.item.now) c.words-words.result.now c.words-words.ensures.value c.words-words.ensures.long c.requires.data in
    omega (
      arith,
      long,
      c.requires.place.before_it,
      c.requires.place.can.fits,
      length-words_of c.args.block.now,
      length-take (8 * (c.args.at + c.args.kept.data_words) - 8 * c.args.at) (drop (8 * c.args.at) c.args.block.now),
      length-drop (8 * c.args.at) c.args.block.now,
    )

pub write-requires-clause-fields : goal.write-requires-clause-fields
write-requires-clause-fields g c =
    let long = kept_long c.args.kept.data_words g.E.Element.data_words (g.E.Element.words c.args.item.now) c.words-words.result.now c.words-words.ensures.value c.words-words.ensures.long c.requires.data in
    let d = data_is_put c.args.at (c.args.at + c.args.kept.data_words) c.args.next (take c.args.kept.data_words c.words-words.result.now) c.args.block.now c.put_words.new.block c.put_words.ensures c.put_words.auto.block
    (omega (arith, long)) (omega (arith, c.requires.place.before_it)) (omega (arith, c.requires.place.can.fits)) c.requires.free in
    subst (λ (room : ℕ). CanWriteFields (g.E.Fields.has_trees c.args.item.now) c.args.canonical c.args.kept.pointers c.args.next room) (omega (arith, d.same)) c.requires.place.can

pub write-requires-clause-free : goal.write-requires-clause-free
write-requires-clause-free g c =
    let long = kept_long c.args.kept.data_words g.E.Element.data_words (g.E.Element.words c.args.item.now) c.words-words.result.now c.words-words.ensures.value c.words-words.ensures.long c.requires.data in
    let d = data_is_put c.args.at (c.args.at + c.args.kept.data_words) c.args.next (take c.args.kept.data_words c.words-words.result.now) c.args.block.now c.put_words.new.block c.put_words.ensures c.put_words.auto.block
    (omega (arith, long)) (omega (arith, c.requires.place.before_it)) (omega (arith, c.requires.place.can.fits)) c.requires.free in
    d.free_from

pub returns-clause-written : goal.returns-clause-written
returns-clause-written g c =
    let long = kept_long c.args.kept.data_words g.E.Element.data_words (g.E.Element.words c.args.item.now) c.words-words.result.now c.words-words.ensures.value c.words-words.ensures.long c.requires.data in
    let d = data_is_put c.args.at (c.args.at + c.args.kept.data_words) c.args.next (take c.args.kept.data_words c.words-words.result.now) c.args.block.now c.put_words.new.block c.put_words.ensures c.put_words.auto.block
    (omega (arith, long)) (omega (arith, c.requires.place.before_it)) (omega (arith, c.requires.place.can.fits)) c.requires.free in
    subst (λ (l : List ℕ). AreFieldsWritten (g.E.Fields.has_trees c.args.item.now) c.args.canonical (c.args.at + c.args.kept.data_words) c.args.kept.pointers c.args.next l (words_of c.write.new.block) c.write.result)
    (d.words_are ∙ ap (λ (l : List ℕ). put c.args.at (take c.args.kept.data_words l) (words_of c.args.block.now)) c.words-words.ensures.value) c.write.ensures.written

pub returns-clause-len : goal.returns-clause-len
returns-clause-len g c =
    let long = kept_long c.args.kept.data_words g.E.Element.data_words (g.E.Element.words c.args.item.now) c.words-words.result.now c.words-words.ensures.value c.words-words.ensures.long c.requires.data in
    let d = data_is_put c.args.at (c.args.at + c.args.kept.data_words) c.args.next (take c.args.kept.data_words c.words-words.result.now) c.args.block.now c.put_words.new.block c.put_words.ensures c.put_words.auto.block
    (omega (arith, long)) (omega (arith, c.requires.place.before_it)) (omega (arith, c.requires.place.can.fits)) c.requires.free in
    c.write.ensures.len ∙ d.long
