-- Bytes that begin with such an encoding are unpacked.
use Rattle.std.proofs.Common.{length, ap, sym, subst}
use Rattle.capnp_pack.specs.Prelude.{Unpacks}
use Rattle.capnp_uses.proofs.PackAndUnpackLemmas.{unpack_succeeds}
use Rattle.capnp_uses.proofs.packing.unpack_words.Goals as goal

pub returns-clause-found : goal.returns-clause-found
returns-clause-found c bytes rest given =
    unpack_succeeds _ _ c.read_exact.result c.read_exact.ensures.failed c.read_exact.ensures.errors bytes rest
    (subst (λ raw. Unpacks raw (length c.read_exact.new.buffer) bytes rest) (sym (ap (λ s. s.now) c.new-packed.ensures.source)) given)
