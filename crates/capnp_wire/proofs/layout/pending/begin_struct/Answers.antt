-- A struct's own words are put into a block, and so are its pointers where all are null.
use Rattle.std.proofs.Common.{arith}
use Rattle.capnp_wire.proofs.layouts.CopyBeginsWithOwnWordsLemmas.{opened_here, struct_begins}
use Rattle.capnp_wire.proofs.walks.NullPointersWalkAndCopyLemmas.{struct_of_nulls}
use Rattle.capnp_wire.proofs.layout.pending.begin_struct.Goals as goal

pub struct_pointer_word-pointer-requires : goal.struct_pointer_word-pointer-requires
struct_pointer_word-pointer-requires g c =
    let o = opened_here c.requires.there.can c.requires.there.is c.output-size.ensures.body in omega (arith, o.kept.fits, c.requires.small)

pub put_words-requires : goal.put_words-requires
put_words-requires g c =
    let o = opened_here c.requires.there.can c.requires.there.is c.output-size.ensures.body in
    record {
      there = omega (arith, c.requires.there.is.room, c.words-words.ensures, c.output-size.ensures.narrower.0, c.output-size.ensures.narrower.1);
      room = omega (arith, o.kept.fits, c.words-words.ensures);
    }

pub returns-then-holds_nulls-clause-begun : goal.returns-then-holds_nulls-clause-begun
returns-then-holds_nulls-clause-begun g c m place nesting can is =
    struct_of_nulls can is c.output-size.ensures.body c.output-size.ensures.narrower.0 c.output-size.ensures.narrower.1 (c.holds_nulls.ensures.0 c.if-holds_nulls.true)
    (rw c.words-words.ensures at c.put_words.ensures.words) c.struct_pointer_word-pointer.ensures (omega (arith, c.words-words.ensures))

pub put_words-requires-2 : goal.put_words-requires-2
put_words-requires-2 g c =
    let o = opened_here c.requires.there.can c.requires.there.is c.output-size.ensures.body in
    record { there = omega (arith, c.requires.there.is.room, c.output-size.ensures.narrower.0); room = omega (arith, o.kept.fits) }

pub returns-clause-begun : goal.returns-clause-begun
returns-clause-begun g c m place nesting can is =
    let first = c.first_pointer.ensures in
    struct_begins can is c.output-size.ensures.body c.output-size.ensures.narrower.1 c.put_words-2.ensures.words c.put_words-2.ensures.len c.struct_pointer_word-pointer.ensures first.segment first.word
    first.bound (omega (arith, c.words-words.ensures))
