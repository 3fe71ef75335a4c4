-- The messages so far are encodings at the front of the source's bytes, and the others are unread.
use Rattle.std.specs.Prelude.{◌≡◌, ◌≤◌, length, map}
use Rattle.std.specs.List.{AllByRecursion}
use Rattle.capnp_frame.specs.declared.serialize.segment_table.Padding.TheVariants.{Zero}
use Rattle.capnp_frame.specs.Prelude.{IfKnown, AreEncodings}
use Rattle.capnp.specs.Prelude.{grammar_of}
use Rattle.capnp_uses.proofs.devices.all_of_source.Given as goal

abbrev pub invariant-loop-count : goal.invariant-loop-count
invariant-loop-count g l = let R = g.R.Read in record {
  encodings : IfKnown (R.unread l.initial.source) (R.unread l.source)
      (AreEncodings (grammar_of Zero l.format) l.options.traversal_limit_in_words (map (λ reader. reader.segments) l.messages.items));
  options : AllByRecursion (λ reader. reader.options ≡ l.options) l.messages.items;
  many : length l.messages.items ≡ l.count;
  counted : R.failures l.initial.source ≤ R.failures l.source;
}
