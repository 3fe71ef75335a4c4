-- A struct has as many pointers as its size says.
use Rattle.std.proofs.Common.{◌+◌}
use Rattle.capnp_layout.proofs.objects.SectionWordByIndexLemmas.{length-places}
use Rattle.capnp_wire.proofs.any_struct.reader.StructReader.pointers.Goals as goal

pub returns : goal.returns
returns g c = let self = c.args.self.now in length-places self.start.segment (self.start.word + self.size.data_words) self.size.pointers
