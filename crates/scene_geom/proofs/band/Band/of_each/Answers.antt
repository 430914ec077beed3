use Rattle.scene_geom.proofs.BandLemmas.{in-each}
use Rattle.scene_geom.proofs.band.Band.of_each.Goals as goal

pub returns : goal.returns
returns g c = in-each (goal.F-post g c.args.f)
    c.f.ensures c.f-2.ensures c.f-3.ensures c.f-4.ensures c.f-5.ensures c.f-6.ensures c.f-7.ensures c.f-8.ensures
