-- The root's word is the pointer to the orphan.
use Rattle.std.proofs.Common.{ℕ, subst}
use Rattle.capnp_orphans.specs.Orphans.{link}
use Rattle.capnp_orphans.specs.Segments.{Segment, PutsRoot}
use Rattle.capnp_orphans.proofs.ObjectAppendLemmas.{sets_root_orphan}
use Rattle.capnp_orphans.proofs.orphanage.Orphanage.set_root.Goals as goal

pub returns : goal.returns
returns g c =
    let new : Segment = g.S.GrowingSegment.state c.set_root_word.new.self in
    let puts = subst (λ (n : ℕ). PutsRoot n (g.S.GrowingSegment.state c.self.inside.segment) (g.S.GrowingSegment.state c.set_root_word.new.self)) c.link.ensures c.set_root_word.ensures in
    sets_root_orphan c.args.self.now new c.args.root.word (subst (λ (s : Segment). PutsRoot (link c.args.root.word 0) s (g.S.GrowingSegment.state c.set_root_word.new.self)) c.self.view_is puts)
