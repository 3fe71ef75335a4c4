-- What is written of a struct that is read is the body of its tree.
use Rattle.std.proofs.Common.{◌≢◌, ◌^◌, ◌<◌, None, length, sym, ◌∙◌, subst, refl, arith}
use Rattle.capnp_layout.specs.Prelude.{words_of, message_of}
use Rattle.capnp_wire.specs.Prelude.{struct_of, limit_of, Struct, HasRoomAt, IsTreeOf}
use Rattle.capnp_layout.proofs.objects.SectionWordByIndexLemmas.{length-words_from}
use Rattle.capnp_wire.proofs.objects.NumberAsStructLemmas.{whole, alone}
use Rattle.capnp_layout.proofs.objects.NumberAsOneWordStructLemmas.{one_word}
use Rattle.capnp_wire.proofs.layouts.NullAndNumbersWrittenLemmas.{tree_body_long}
use Rattle.capnp_wire.proofs.views.UniqueValueTreeAndMeasureLemmas.{one_of_struct}
use Rattle.capnp_wire.proofs.any_struct.StructReaderSetterInputOwned.write.Goals as goal

pub write-requires-in-Some-clause-value : goal.write-requires-in-Some-clause-value
write-requires-in-Some-clause-value g c =
    let self = c.args.self.now in
    let m = message_of (g.S.ReaderSegments.segments self.segments.now) in
    let some : self.part ≢ None = λ none. cc in
    let own = self.own some in
    let long = sym (length-words_from self.segment.now self.start.word self.size.data_words (omega (arith, self.room))) ∙ own.0 in
    let small : c.get_word.result < 2 ^ 64 = omega (arith, c.get_word.type_inv) in
    let same = alone m (words_of self.segment.now) _ self.start (record { segment = 0; word = 0 }) self.size self.part self.nesting (limit_of self.limiter) c.get_word.result own.0 own.1 refl long c.get_word.ensures
    (one_word c.to_le_bytes.result c.get_word.result small c.to_le_bytes.ensures) in
    (limit_of self.limiter, subst (λ (f : Struct). HasRoomAt (IsTreeOf f) c.args.canonical c.args.next (length (words_of c.args.block.now))) (sym same) c.requires.value)

pub returns-in-None-clause-written : goal.returns-in-None-clause-written
returns-in-None-clause-written g c trees is =
    let self = c.args.self.now in
    let m = message_of (g.S.ReaderSegments.segments self.segments.now) in
    let same = whole m (words_of self.segment.now) self.start self.size self.part self.nesting (limit_of self.limiter) c.in-None.is in
    c.write.ensures.written (limit_of self.limiter) trees (subst (λ (f : Struct). IsTreeOf f trees) (sym same) is)

pub returns-in-Some-clause-written : goal.returns-in-Some-clause-written
returns-in-Some-clause-written g c trees is =
    let self = c.args.self.now in
    let m = message_of (g.S.ReaderSegments.segments self.segments.now) in
    let some : self.part ≢ None = λ none. cc in
    let own = self.own some in
    let long = sym (length-words_from self.segment.now self.start.word self.size.data_words (omega (arith, self.room))) ∙ own.0 in
    let small : c.get_word.result < 2 ^ 64 = omega (arith, c.get_word.type_inv) in
    let same = alone m (words_of self.segment.now) _ self.start (record { segment = 0; word = 0 }) self.size self.part self.nesting (limit_of self.limiter) c.get_word.result own.0 own.1 refl long c.get_word.ensures
    (one_word c.to_le_bytes.result c.get_word.result small c.to_le_bytes.ensures) in
    c.write-in-Some.ensures.written (limit_of self.limiter) trees (subst (λ (f : Struct). IsTreeOf f trees) (sym same) is)

pub returns-in-None-clause-long : goal.returns-in-None-clause-long
returns-in-None-clause-long g c trees is =
    let fields = struct_of g.S.ReaderSegments.segments c.args.self.now in
    tree_body_long (IsTreeOf fields) c.args.canonical c.args.next _ (one_of_struct fields).same_tree c.requires.value trees is

pub returns-in-Some-clause-long : goal.returns-in-Some-clause-long
returns-in-Some-clause-long g c trees is =
    let fields = struct_of g.S.ReaderSegments.segments c.args.self.now in
    tree_body_long (IsTreeOf fields) c.args.canonical c.args.next _ (one_of_struct fields).same_tree c.requires.value trees is
