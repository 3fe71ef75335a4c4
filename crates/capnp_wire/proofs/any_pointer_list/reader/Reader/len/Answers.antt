-- A list of pointers has as many places as its count says.
use Rattle.capnp_layout.proofs.objects.SectionWordByIndexLemmas.{length-places}
use Rattle.capnp_wire.proofs.any_pointer_list.reader.Reader.len.Goals as goal

pub returns : goal.returns
returns g c = let self = c.args.self.now in length-places self.first.segment self.first.word self.count
