-- The struct that is added becomes the root.
use Rattle.capnp_orphans.specs.Segments.{body_of}
use Rattle.capnp_orphans.specs.Holds.{HoldsStruct, TakesStructWords}
use Rattle.capnp_orphans.proofs.ObjectAppendLemmas.{adds_root}
use Rattle.capnp_orphans.proofs.orphanage.Orphanage.add_root.Goals as goal

pub returns-clause-adds : goal.returns-clause-adds
returns-clause-adds g c =
    let a = c.in_ok-root.ensures.adds in
    let w = c.in_ok-root.ensures.writes in
    adds_root (TakesStructWords g.row.D g.row.P) (HoldsStruct (body_of c.args.self.now) c.args.draft.now.words c.args.draft.now.pointers) c.args.self.now c.add.new.self c.set_root.new.self c.in_ok-root.root.word
    a.keeps a.orphan w.appended w.most w.memory w.within_memory c.set_root.ensures
