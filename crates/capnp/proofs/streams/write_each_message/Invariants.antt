-- The messages before this index are written.
use Rattle.capnp_frame.specs.Prelude.{IfKnown, Advances, Grows}
use Rattle.capnp.specs.Prelude.{HasWritten}
use Rattle.capnp.proofs.streams.write_each_message.Given as goal

abbrev pub invariant-loop-message : goal.invariant-loop-message
invariant-loop-message g l = let R = g.R.Read in let W = g.W.Write in record {
  written : IfKnown (R.unread l.initial.source) (R.unread l.source)
      (HasWritten l.rules.padding l.format l.rules.limit_in_words (g.M.MessageWriter.writes l.writer W.appends) l.message (W.written l.initial.sink) (W.written l.sink));
  advances : Advances R.unread R.failures R.same l.initial.source l.source;
  grows : Grows W.written W.failures W.same l.initial.sink l.sink;
}
