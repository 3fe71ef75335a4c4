-- What was written is the encodings.
use Rattle.capnp.specs.Prelude.{input_of, Transcodes, TranscodedErrors, IsOtherEncoding}
use Rattle.capnp.proofs.TranscodingRunLemmas.{WritesEach-weaker, other_encoding_added}
use Rattle.capnp.proofs.transcoding.transcode_by.Goals as goal

pub returns-in-Ok : goal.returns-in-Ok
returns-in-Ok g c =
    let runs = rw c.new-rules.ensures at (rw c.input.ensures at c.in-Ok.ensures) in
    record {
      encodings = λ plain. WritesEach-weaker g.R.Read _ _ g.W.Write _ _ c.args.padding (input_of c.args.way)
          c.args.options.traversal_limit_in_words (Transcodes c.args.way g.W.Write.appends) (IsOtherEncoding c.args.way)
          (TranscodedErrors c.args.way g.W.Write.appends g.W.Write.leaves g.W.Write.refuses) (other_encoding_added c.args.way g.W.Write.appends plain) _ runs;
      runs = runs;
    }

pub returns-in-Err : goal.returns-in-Err
returns-in-Err g c =
    let runs = rw c.new-rules.ensures at (rw c.input.ensures at c.in-Err.ensures) in
    record {
      encodings = λ plain. (
        c.in-Err.failure.message,
        WritesEach-weaker g.R.Read _ _ g.W.Write _ _ c.args.padding (input_of c.args.way)
            c.args.options.traversal_limit_in_words (Transcodes c.args.way g.W.Write.appends) (IsOtherEncoding c.args.way)
            (TranscodedErrors c.args.way g.W.Write.appends g.W.Write.leaves g.W.Write.refuses) (other_encoding_added c.args.way g.W.Write.appends plain) _ runs,
      );
      runs = (c.in-Err.failure.message, runs);
    }
