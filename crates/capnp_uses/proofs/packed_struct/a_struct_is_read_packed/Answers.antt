-- What is read was written.
use Rattle.capnp_uses.proofs.RootSetFromPointerTreeLemmas.{root_has_segment}
use Rattle.capnp_uses.proofs.PackedReadBackLemmas.{shown_encoding, packed_struct_error}
use Rattle.capnp_uses.proofs.packed_struct.a_struct_is_read_packed.Goals as goal

pub packed_encoding-requires : goal.packed_encoding-requires
packed_encoding-requires g c = root_has_segment _ _ _ _ c.in_ok-write_struct.ensures.has_root.1

pub returns-clause-back : goal.returns-clause-back
returns-clause-back g c = c.read_packed_words.ensures.words _ c.args.first c.args.second c.in_ok-encoding.ensures.packed.0
    (shown_encoding _ _ _ c.deref.ensures.value c.in_ok-encoding.ensures.packed.2) c.in_ok-write_struct.ensures.has_root

pub returns-clause-errors : goal.returns-clause-errors
returns-clause-errors g c = packed_struct_error _ _ _ _ _ c.read_packed_words.result
    (shown_encoding _ _ _ c.deref.ensures.value c.in_ok-encoding.ensures.packed.2) c.read_packed_words.ensures.errors
