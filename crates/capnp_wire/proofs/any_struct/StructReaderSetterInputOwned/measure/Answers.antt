-- A struct that is read has, with all below it, the words of its tree.
use Rattle.std.proofs.Common.{◌≢◌, ◌^◌, ◌<◌, MatchResult, None, sym, ◌∙◌, subst, refl, arith}
use Rattle.capnp_layout.specs.Prelude.{words_of, message_of}
use Rattle.capnp_wire.specs.Prelude.{struct_of, limit_of, Struct, HasWords, WordsError, IsTreeOf, WalkErrorInside}
use Rattle.capnp_layout.proofs.objects.SectionWordByIndexLemmas.{length-words_from}
use Rattle.capnp_wire.proofs.objects.NumberAsStructLemmas.{whole, alone}
use Rattle.capnp_layout.proofs.objects.NumberAsOneWordStructLemmas.{one_word}
use Rattle.capnp_wire.proofs.views.UniqueValueTreeAndMeasureLemmas.{one_of_struct, measured_found, measured_exactly}
use Rattle.capnp_wire.proofs.any_struct.StructReaderSetterInputOwned.measure.Goals as goal

pub returns-in-None : goal.returns-in-None
returns-in-None g c =
    let self = c.args.self.now in
    let fields = struct_of g.S.ReaderSegments.segments self in
    let m = message_of (g.S.ReaderSegments.segments self.segments.now) in
    let same = whole m (words_of self.segment.now) self.start self.size self.part self.nesting (limit_of self.limiter) c.in-None.is in
    let measured = rw c.limit_in_words-limit.ensures at c.measure.ensures in
    let returned = subst (λ (f : Struct). MatchResult c.measure.result (λ words. HasWords (IsTreeOf f) c.args.canonical words) (λ error. WordsError (IsTreeOf f) (WalkErrorInside f) c.args.canonical error.kind)) same measured in
    record {
      returned = returned;
      found = measured_found (IsTreeOf fields) (WalkErrorInside fields) (one_of_struct fields) c.args.canonical c.measure.result returned;
      exact = measured_exactly (IsTreeOf fields) (WalkErrorInside fields) (one_of_struct fields) c.args.canonical c.measure.result returned;
    }

pub returns-in-Some : goal.returns-in-Some
returns-in-Some g c =
    let self = c.args.self.now in
    let fields = struct_of g.S.ReaderSegments.segments self in
    let m = message_of (g.S.ReaderSegments.segments self.segments.now) in
    let some : self.part ≢ None = λ none. cc in
    let own = self.own some in
    let long = sym (length-words_from self.segment.now self.start.word self.size.data_words (omega (arith, self.room))) ∙ own.0 in
    let small : c.get_word.result < 2 ^ 64 = omega (arith, c.get_word.type_inv) in
    let same = alone m (words_of self.segment.now) _ self.start (record { segment = 0; word = 0 }) self.size self.part self.nesting (limit_of self.limiter) c.get_word.result own.0 own.1 refl long c.get_word.ensures
    (one_word c.to_le_bytes.result c.get_word.result small c.to_le_bytes.ensures) in
    let measured = rw c.limit_in_words-limit.ensures at c.measure-in-Some.ensures in
    let returned = subst (λ (f : Struct). MatchResult c.measure-in-Some.result (λ words. HasWords (IsTreeOf f) c.args.canonical words) (λ error. WordsError (IsTreeOf f) (WalkErrorInside f) c.args.canonical error.kind)) same measured in
    record {
      returned = returned;
      found = measured_found (IsTreeOf fields) (WalkErrorInside fields) (one_of_struct fields) c.args.canonical c.measure-in-Some.result returned;
      exact = measured_exactly (IsTreeOf fields) (WalkErrorInside fields) (one_of_struct fields) c.args.canonical c.measure-in-Some.result returned;
    }
