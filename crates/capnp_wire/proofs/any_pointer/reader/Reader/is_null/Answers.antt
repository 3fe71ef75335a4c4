-- A pointer is null where it has no place, or is at a word of zeros.
use Rattle.std.proofs.Common.{refl}
use Rattle.capnp_wire.specs.Prelude.{nowhere, pointer_of}
use Rattle.capnp_wire.proofs.pointers.NullWhereWordIsZeroLemmas.{null_by_word, word_by_null, no_null}
use Rattle.capnp_wire.proofs.any_pointer.reader.Reader.is_null.Goals as goal

pub returns-in-None : goal.returns-in-None
returns-in-None g c = (λ is. nowhere c.in-None.is, λ there. refl)

pub returns-in-Ok : goal.returns-in-Ok
returns-in-Ok g c =
    let p = pointer_of g.S.ReaderSegments.segments c.args.self.now in (
      (λ is. null_by_word p c.in-Some.place c.in-Ok.word c.in-Some.is c.in-Ok.ensures is),
      (λ there. word_by_null p c.in-Some.place c.in-Ok.word c.in-Some.is c.in-Ok.ensures there),
    )

pub returns-in-Err : goal.returns-in-Err
returns-in-Err g c =
    let p = pointer_of g.S.ReaderSegments.segments c.args.self.now in (
      (λ is. cc),
      (λ there. absurd (no_null p c.in-Some.place c.in-Err.field-0.kind c.in-Some.is c.in-Err.ensures there)),
    )
