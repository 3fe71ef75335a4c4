-- The object comes after the used bytes.
use Rattle.capnp_orphans.proofs.RegionContinuedAfterAppendLemmas.{appends_in_region}
use Rattle.capnp_orphans.proofs.continued.append.Goals as goal

pub returns-clause-appends : goal.returns-clause-appends
returns-clause-appends g c =
    appends_in_region (g.O.Object.holds c.args.object.now) c.args.words c.args.used c.args.region.now c.write_over.new.bytes c.write_over.result c.requires.used c.requires.few c.requires.room
    c.write_over.ensures
