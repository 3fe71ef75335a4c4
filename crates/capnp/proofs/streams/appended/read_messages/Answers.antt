-- Each turn reads one more message.
use Rattle.std.proofs.Common.{◌≡◌, ◌+◌, ◌<◌, ◌++◌, ◌∷◌, [], inl, length, map, arith, ap, refl, sym, ◌∙◌}
use Rattle.std.proofs.lemmas.List.{length-map, length_push}
use Rattle.std.proofs.lemmas.Result.{err_from_is_err_and}
use Rattle.capnp_frame.proofs.sources.JoinedRequestPartsLemmas.{Advances-join}
use Rattle.capnp_frame.specs.declared.serialize.segment_table.Padding.TheVariants.{Zero}
use Rattle.capnp_frame.specs.declared.error.ErrorKind.TheVariants.{DeviceFailed, OutOfMemory}
use Rattle.capnp.proofs.MessageSequenceReadBackLemmas.{encodings_next, fails_reading, accepted_at_memory, AllByRecursion-append-one}
use Rattle.capnp.proofs.streams.appended.read_messages.Goals as goal

pub returns-in_err-reader : goal.returns-in_err-reader
returns-in_err-reader g c =
    let p = err_from_is_err_and c.from_residual.result c.from_residual.ensures.1 in
    let messages = map (λ reader. reader.segments) c.loop-index.readers.items in
    let reported = c.loop-index.invariant in
    let fewer : length messages < c.args.count = omega (arith, length-map c.loop-index.readers.items (λ reader. reader.segments), reported.counted, c.loop-index-test.true) in
    rw (p.1, p.2) (fails_reading g.R.Read _ _ _ c.args.format c.args.options c.args.count (λ readers. readers.items) (λ reader. reader.segments)
    (λ reader. reader.options) messages c.in_err-reader.field-0.0 (g.met.R.Read.keeps.transitive _ _ _) fewer reported.encodings reported.advances c.in_err-reader.ensures)

pub returns-in_err-push : goal.returns-in_err-push
returns-in_err-push g c =
    let p = err_from_is_err_and c.from_residual-in_err-push.result c.from_residual-in_err-push.ensures.1 in
    let more = c.loop-index.readers.items ++ c.in_ok-reader.reader ∷ [] in
    rw p.1 (record {
      counted = tt;
      found = tt;
      options_are = tt;
      accepted = accepted_at_memory Zero c.args.format c.args.options.traversal_limit_in_words c.args.count p.0.kind _ p.2;
      fails = inl (record {
        memory = p.2;
        messages = map (λ reader. reader.segments) more;
        some = omega (arith, length-map more (λ reader. reader.segments), length_push c.loop-index.readers.items c.in_ok-reader.reader);
        within = omega (
          arith,
          length-map more (λ reader. reader.segments),
          length_push c.loop-index.readers.items c.in_ok-reader.reader,
          c.loop-index.invariant.counted,
          length-map c.loop-index.readers.items (λ reader. reader.segments),
          c.loop-index-test.true,
        );
        encodings = encodings_next Zero c.args.format c.args.options.traversal_limit_in_words (λ reader. reader.segments) c.loop-index.readers.items
            more c.in_ok-reader.reader _ _ _ refl c.loop-index.invariant.encodings (c.in_ok-reader.ensures.encodings tt).found;
      });
      failed = λ device. let never : OutOfMemory ≡ DeviceFailed = sym p.2 ∙ device in cc;
      advances = Advances-join _ _ _ (g.met.R.Read.keeps.transitive _ _ _) c.loop-index.invariant.advances c.in_ok-reader.ensures.reads.advances;
    })

pub loop-index-preserved : goal.loop-index-preserved
loop-index-preserved g c = record {
  counted = ap length c.in_ok-push.ensures.items ∙ length_push c.loop-index.readers.items c.in_ok-reader.reader ∙ ap (λ k. k + 1) c.loop-index.invariant.counted;
  encodings = encodings_next Zero c.args.format c.args.options.traversal_limit_in_words (λ reader. reader.segments) c.loop-index.readers.items
      c.push.new.self.items c.in_ok-reader.reader _ _ _ c.in_ok-push.ensures.items c.loop-index.invariant.encodings
      (c.in_ok-reader.ensures.encodings tt).found;
  options = AllByRecursion-append-one (λ reader. reader.options ≡ c.args.options) c.loop-index.readers.items c.push.new.self.items c.in_ok-reader.reader
      c.in_ok-push.ensures.items c.loop-index.invariant.options c.in_ok-reader.ensures.options_are;
  advances = Advances-join _ _ _ (g.met.R.Read.keeps.transitive _ _ _) c.loop-index.invariant.advances c.in_ok-reader.ensures.reads.advances;
}
