-- The object is appended.
use Rattle.std.proofs.Common.{Ok, subst}
use Rattle.capnp_orphans.specs.Segments.{Segment, IsSegment, AppendsObject}
use Rattle.capnp_orphans.specs.Holds.{word_of}
use Rattle.capnp_orphans.proofs.ObjectAppendLemmas.{adds_one}
use Rattle.capnp_orphans.proofs.orphanage.Orphanage.write_anew.Goals as goal

pub returns-clause-adds : goal.returns-clause-adds
returns-clause-adds g c =
    let holds = g.O.Object.holds c.args.object.now in
    let new : Segment = g.S.GrowingSegment.state c.append.new.self in
    let appends = subst (λ (s : Segment). AppendsObject (g.O.Object.holds c.args.object.now) c.in_ok-words.words s (g.S.GrowingSegment.state c.append.new.self) (Ok c.in_ok-word.word)) c.self.view_is c.in_ok-word.ensures in
    adds_one holds c.in_ok-words.words c.args.self.now new word_of c.in_ok-word.word c.of_word.result (subst (λ (s : Segment). IsSegment s) c.self.view_is c.self.invariant) appends c.of_word.ensures
