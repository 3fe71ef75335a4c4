-- The object comes after the used bytes.
use Rattle.capnp_orphans.proofs.ObjectAppendLemmas.{region_appended}
use Rattle.capnp_orphans.proofs.region.RegionGrowingSegment.append.Goals as goal

pub returns : goal.returns
returns g c =
    region_appended (g.O.Object.holds c.args.object.now) c.args.words c.self.inside.used c.args.self.now c.self.inside.bytes.now c.write_over-word.new.bytes c.write_over-word.result c.requires.segment
    c.self.view_is c.if-end-self.false c.write_over-word.ensures
