-- A list of pointers is written at its start.
use Rattle.std.proofs.Common.{length, map, arith}
use Rattle.std.proofs.lemmas.List.{length-map}
use Rattle.capnp_orphans.specs.Holds.{word_of}
use Rattle.capnp_orphans.proofs.WrittenBlockIsOrphanLemmas.{pointers_children}
use Rattle.capnp_orphans.proofs.pointer_list.PointerListObject.write.Goals as goal

pub returns : goal.returns
returns g c body start_is =
    pointers_children body (map word_of c.args.self.now.items.now) c.put_links.new.block c.args.start (length c.args.self.now.items.now) c.list_word.result start_is
    (length-map c.args.self.now.items.now word_of) (omega (arith, c.requires.few, c.requires.takes.1)) c.put_links.ensures c.list_word.ensures
