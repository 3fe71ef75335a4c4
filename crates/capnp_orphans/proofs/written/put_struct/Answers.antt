-- The pointers come after the data words.
use Rattle.std.proofs.Common.{◌+◌, ◌*◌, ◌∙◌, ℕ, List, drop, length, ap, arith, length-take}
use Rattle.std.proofs.lemmas.List.{map-id}
use Rattle.capnp_orphans.specs.Orphans.{links}
use Rattle.capnp_orphans.proofs.WrittenBlockIsOrphanLemmas.{two_parts}
use Rattle.capnp_orphans.proofs.written.put_struct.Goals as goal

pub returns-clause-words : goal.returns-clause-words
returns-clause-words c =
    two_parts (length c.args.words.now) c.put_words.new.block (drop (8 * length c.args.words.now) c.args.block.now) c.put_links.new.block c.args.words.now _
    (omega (arith, c.put_words.auto.block, c.requires.room, length-take (8 * length c.args.words.now) c.args.block.now)) c.put_words.ensures
    (c.put_links.ensures ∙ ap (λ (l : List ℕ). links l (c.args.start + length c.args.words.now)) (map-id c.args.pointers.now))
