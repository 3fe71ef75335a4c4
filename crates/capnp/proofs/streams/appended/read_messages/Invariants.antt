-- The messages before this index are read.
use Rattle.std.specs.Prelude.{◌≡◌, length, map}
use Rattle.std.specs.List.{AllByRecursion}
use Rattle.capnp_frame.specs.Prelude.{IfKnown, Advances, AreEncodings}
use Rattle.capnp_frame.specs.declared.serialize.segment_table.Padding.TheVariants.{Zero}
use Rattle.capnp.specs.Prelude.{grammar_of}
use Rattle.capnp.proofs.streams.appended.read_messages.Given as goal

abbrev pub invariant-loop-index : goal.invariant-loop-index
invariant-loop-index g l = let R = g.R.Read in record {
  counted : length l.readers.items ≡ l.index;
  encodings : IfKnown (R.unread l.initial.source) (R.unread l.source) (AreEncodings (grammar_of Zero l.format) l.options.traversal_limit_in_words (map (λ reader. reader.segments) l.readers.items));
  options : AllByRecursion (λ reader. reader.options ≡ l.options) l.readers.items;
  advances : Advances R.unread R.failures R.same l.initial.source l.source;
}
