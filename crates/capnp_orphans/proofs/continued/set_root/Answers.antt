-- The root's word is the pointer to the orphan.
use Rattle.std.proofs.Common.{◌∙◌, ◌∷◌, ℕ, take, drop, ap}
use Rattle.capnp_layout.specs.Prelude.{words_of}
use Rattle.capnp_orphans.proofs.RegionContinuedAfterAppendLemmas.{sets_root_in_region}
use Rattle.capnp_orphans.proofs.continued.set_root.Goals as goal

pub returns-clause-root : goal.returns-clause-root
returns-clause-root c =
    sets_root_in_region c.args.word c.args.used c.args.region.now c.put_first.new.bytes c.requires
    (c.put_first.ensures.words ∙ ap (λ (n : ℕ). n ∷ drop 1 (words_of (take c.args.used c.args.region.now))) c.link.ensures) c.put_first.ensures.len
