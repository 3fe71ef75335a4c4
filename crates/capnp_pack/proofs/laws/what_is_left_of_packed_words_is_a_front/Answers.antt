-- The parts that are left are a front of the only packed encoding.
use Rattle.std.proofs.Common.{inl, inr, sym, ap, ◌++◌, ◌∙◌}
use Rattle.std.specs.List.{concat}
use Rattle.capnp_frame.proofs.sinks.ChunkWritesUntilFailureLemmas.{left_is_front}
use Rattle.capnp_pack.proofs.packing.WordsPackUniquelyAndUnpackLemmas.{Packs-once}
use Rattle.capnp_pack.proofs.laws.what_is_left_of_packed_words_is_a_front.Goals as goal

pub returns : goal.returns
returns g c within chunk encoding packed left packs = elim left [
  | inl none ↦ (packed, ap (λ l. l ++ packed) (sym none))
  | inr (parts, own, remains) ↦ let (tail, e) = left_is_front g.W.Write.leaves within parts encoding remains in
      (tail, Packs-once chunk packed (concat parts) packs own ∙ e)
]
