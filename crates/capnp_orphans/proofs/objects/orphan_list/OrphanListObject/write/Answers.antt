-- A list of pointers is written at its start.
use Rattle.std.proofs.Common.{◌∙◌, ℕ, List, length, refl, ap, arith}
use Rattle.std.proofs.lemmas.List.{map-id}
use Rattle.capnp_orphans.specs.Orphans.{links}
use Rattle.capnp_orphans.proofs.WrittenBlockIsOrphanLemmas.{pointers_children}
use Rattle.capnp_orphans.proofs.objects.orphan_list.OrphanListObject.write.Goals as goal

pub returns : goal.returns
returns c body start_is =
    let words = c.args.self.now.words.now in
    pointers_children body words c.put_links.new.block c.args.start (length c.args.self.now.words.now) c.list_word.result start_is refl (omega (arith, c.requires.few, c.requires.takes.1))
    (c.put_links.ensures ∙ ap (λ (l : List ℕ). links l c.args.start) (map-id c.args.self.now.words.now)) c.list_word.ensures
