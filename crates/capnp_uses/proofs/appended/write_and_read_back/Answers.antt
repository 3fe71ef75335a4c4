-- What was written is encodings, which are read.
use Rattle.std.proofs.Common.{map, [], ap, Some, inl, inr}
use Rattle.std.proofs.lemmas.List.{length-map}
use Rattle.std.proofs.lemmas.Result.{err_from_is_err_and}
use Rattle.capnp_frame.specs.declared.serialize.segment_table.Padding.TheVariants.{Zero}
use Rattle.capnp.specs.Prelude.{IsEncodingOf, AppendsEach}
use Rattle.capnp_uses.proofs.AppendedMessagesReadBackLemmas.{appended_alone, appending_memory, read_encodings, read_same, no_message_left, memory_only}
use Rattle.capnp_uses.proofs.appended.write_and_read_back.Goals as goal

pub returns-in_err-write_messages : goal.returns-in_err-write_messages
returns-in_err-write_messages g c =
    let p = err_from_is_err_and c.from_residual.result c.from_residual.ensures.1 in
    let errors = appending_memory c.args.format (map g.S.ReaderSegments.segments c.args.messages.now) _ c.requires.writable c.in_err-write_messages.ensures.failed c.in_err-write_messages.ensures.errors in
    rw (p.1, p.2) (record { written = tt; read = tt; back = tt; options_are = tt; ends = tt; few = tt; errors = errors })

pub returns-in_err-readers : goal.returns-in_err-readers
returns-in_err-readers g c =
    let p = err_from_is_err_and c.from_residual-in_err-readers.result c.from_residual-in_err-readers.ensures.1 in
    let reported = c.in_err-readers.ensures in
    let encodings = read_encodings Zero c.args.format c.args.options.traversal_limit_in_words
    (map g.S.ReaderSegments.segments c.args.messages.now) c.new-encodings.result.items _ c.deref-source.result.now
    c.new-encodings.ensures.items c.deref-source.ensures.value c.requires.writable c.in_ok-write_messages.ensures.few
    c.requires.size (c.in_ok-write_messages.ensures.encoding (λ chunk encoding same. same)) in
    let memory = memory_only c.in_err-readers.field-0.0.kind (reported.accepted (map g.S.ReaderSegments.segments c.args.messages.now) [] encodings
    (length-map c.args.messages.now g.S.ReaderSegments.segments)) reported.failed in
    rw (p.1, p.2) (record { written = tt; read = tt; back = tt; options_are = tt; ends = tt; few = tt; errors = inr memory })

pub returns-in_err-end : goal.returns-in_err-end
returns-in_err-end g c =
    let p = err_from_is_err_and c.from_residual-in_err-end.result c.from_residual-in_err-end.ensures.1 in
    let encodings = read_encodings Zero c.args.format c.args.options.traversal_limit_in_words
    (map g.S.ReaderSegments.segments c.args.messages.now) c.new-encodings.result.items _ c.deref-source.result.now
    c.new-encodings.ensures.items c.deref-source.ensures.value c.requires.writable c.in_ok-write_messages.ensures.few
    c.requires.size (c.in_ok-write_messages.ensures.encoding (λ chunk encoding same. same)) in
    let same = read_same Zero c.args.format c.args.options.traversal_limit_in_words (λ reader. reader.segments) g.S.ReaderSegments.segments
    c.in_ok-readers.readers.items c.args.messages.now c.deref-source.result.now _ c.in_ok-readers.ensures.found encodings
    c.in_ok-readers.ensures.counted in
    let memory = memory_only c.in_err-end.field-0.0.kind (inl (c.in_err-end.ensures.reads.end (ap Some same.1))) c.in_err-end.ensures.reads.failed in
    rw (p.1, p.2) (record { written = tt; read = tt; back = tt; options_are = tt; ends = tt; few = tt; errors = inr memory })

pub returns : goal.returns
returns g c =
    let limit = c.args.options.traversal_limit_in_words in
    let messages = map g.S.ReaderSegments.segments c.args.messages.now in
    let wrote = c.in_ok-write_messages.ensures.encoding (λ chunk encoding same. same) in
    let encodings = read_encodings Zero c.args.format limit messages c.new-encodings.result.items _ c.deref-source.result.now
    c.new-encodings.ensures.items c.deref-source.ensures.value c.requires.writable c.in_ok-write_messages.ensures.few c.requires.size wrote in
    let same = read_same Zero c.args.format limit (λ reader. reader.segments) g.S.ReaderSegments.segments
    c.in_ok-readers.readers.items c.args.messages.now c.deref-source.result.now _ c.in_ok-readers.ensures.found encodings
    c.in_ok-readers.ensures.counted in
    record {
      written = appended_alone (AppendsEach (IsEncodingOf c.args.format) messages) c.new-encodings.result.items _ c.new-encodings.ensures.items wrote;
      read = rw (← c.deref-source.ensures.value) (rw (← same.0) at encodings);
      back = same.0;
      options_are = c.in_ok-readers.ensures.options_are;
      ends = no_message_left Zero c.args.format limit (λ reader. reader.segments) c.in_ok-end.end _ _ _ (ap Some same.1) c.in_ok-end.ensures.reads;
      few = c.in_ok-write_messages.ensures.few;
      errors = tt;
    }
