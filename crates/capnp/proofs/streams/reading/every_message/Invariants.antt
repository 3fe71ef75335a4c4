-- The messages so far are encodings at the front, each of a byte at least, and what is left is after `end`.
use Rattle.std.specs.Prelude.{◌≡◌, ◌+◌, ◌-◌, ◌≤◌, length, map}
use Rattle.std.specs.List.{AllByRecursion}
use Rattle.capnp_frame.specs.Prelude.{AreEncodings}
use Rattle.capnp.specs.Prelude.{grammar_of}
use Rattle.capnp.proofs.streams.reading.every_message.Given as goal

abbrev pub invariant-loop-count : goal.invariant-loop-count
invariant-loop-count l = record {
  encodings : AreEncodings (grammar_of l.padding l.format) l.options.traversal_limit_in_words (map (λ reader. reader.segments) l.messages.items) l.stream l.rest;
  options : AllByRecursion (λ reader. reader.options ≡ l.options) l.messages.items;
  long : l.count + length l.rest ≤ length l.stream;
  at : l.end ≡ length l.stream - length l.rest;
}
