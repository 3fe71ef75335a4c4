-- A value is written into a part of some bytes.
use Rattle.std.proofs.Common.{◌≡◌, ◌-◌, ◌/◌, ◌∙◌, ℕ, List, length, take, drop, ap, arith}
use Rattle.capnp_layout.proofs.words.WordsOfBytesLemmas.{length-words_of}
use Rattle.capnp_build.proofs.words.WrittenPartIsValueBlockLemmas.{part_room, part_free, is_block, part_written, part_long}
use Rattle.capnp_build.proofs.segment_space.write_into.Goals as goal

pub write-copied-requires-clause-value : goal.write-copied-requires-clause-value
write-copied-requires-clause-value g c =
    part_room (g.V.SetterInput.has_tree c.args.value.now) c.args.canonical c.args.bytes.now c.args.from c.args.to c.requires.order c.requires.within c.requires.words

pub write-copied-requires-clause-free : goal.write-copied-requires-clause-free
write-copied-requires-clause-free g c =
    part_free (g.V.SetterInput.has_tree c.args.value.now) c.args.canonical c.args.bytes.now c.args.from c.args.to c.requires.order c.requires.within c.requires.whole c.requires.zero c.requires.words

pub returns : goal.returns
returns g c =
    let old : List ℕ = c.args.bytes.now in
    let part : List ℕ = take (c.args.to - c.args.from) (drop c.args.from c.args.bytes.now) in
    let long : length (take (c.args.to - c.args.from) (drop c.args.from c.args.bytes.now)) ≡ c.args.to - c.args.from = part_long old c.args.from c.args.to c.requires.order c.requires.within in
    let block_long : length c.write-copied.new.block ≡ c.args.to - c.args.from = c.write-copied.ensures.len ∙ long in
    record {
      block = c.write-copied.new.block;
      len = block_long;
      holds = is_block (g.V.SetterInput.has_tree c.args.value.now) c.args.canonical (c.args.to - c.args.from) part c.write-copied.new.block c.write-copied.result c.word_of.result c.requires.words
          (omega (arith, length-words_of (take (c.args.to - c.args.from) (drop c.args.from c.args.bytes.now)), ap (λ (n : ℕ). n / 8) long)) c.write-copied.ensures.written c.write-copied.ensures.long c.word_of.ensures;
      bytes = part_written old c.write-copied.new.block c.args.from (c.args.to - c.args.from) block_long;
    }
