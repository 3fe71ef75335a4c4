-- The first words are there, and belong to no object.
use Rattle.std.proofs.Common.{◌≡◌, map, take}
use Rattle.capnp_show.specs.Words.{free_word}
use Rattle.capnp_show.proofs.owners.free_words.Given as goal

abbrev pub invariant-loop-word : goal.invariant-loop-word
invariant-loop-word l = l.free.items ≡ map free_word (take l.word-index l.words)
