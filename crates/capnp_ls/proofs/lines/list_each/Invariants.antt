-- The lines of the messages before this index are printed.
use Rattle.capnp.specs.Prelude.{IfKnown, Advances, Grows, default_limit, HasWritten}
use Rattle.capnp_ls.specs.declared.command.Command.TheVariants.{Listing}
use Rattle.capnp_ls.specs.Output.{Prints}
use Rattle.capnp_ls.proofs.lines.list_each.Given as goal

abbrev pub invariant-loop-message : goal.invariant-loop-message
invariant-loop-message g l = let R = g.R.Read in let W = g.W.Write in record {
  written : IfKnown (R.unread l.initial.source) (R.unread l.source)
      (HasWritten l.padding l.format default_limit (Prints (Listing l.format l.padding) W.appends) l.message (W.written l.initial.sink) (W.written l.sink));
  advances : Advances R.unread R.failures R.same l.initial.source l.source;
  grows : Grows W.written W.failures W.same l.initial.sink l.sink;
}
