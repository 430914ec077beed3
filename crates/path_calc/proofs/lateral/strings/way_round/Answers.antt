use Rattle.std.proofs.Common.{sym, ap, subst, ◌∙◌, List, arith}
use Rattle.fix_interval.specs.Interval.{Interval}
use Rattle.fix_interval.specs.Tree.{Known, enc}
use Rattle.scene_geom.specs.declared.band.Band.{Band}
use Rattle.term_barrier.specs.Lateral.{in_band, side_attenuation}
use Rattle.term_barrier.specs.Limits.{IsScreening}
use Rattle.term_barrier.proofs.Cornering.{in-bands}
use Rattle.path_calc.proofs.Corners.{side-between}
use Rattle.path_calc.proofs.lateral.strings.way_round.Goals as goal

pub returns-clause-bounds : goal.returns-clause-bounds
returns-clause-bounds c = λ band.
    let ends = c.args.ends in
    let value = λ (band : Band). enc (side_attenuation ends.s ends.hs ends.r ends.hr c.args.corners.now (Known c.args.d) band) in
    subst IsScreening (sym (ap (λ (values : List Interval). in_band values band) c.of.ensures.value ∙ in-bands value band))
    (side-between ends.s ends.hs ends.r ends.hr c.args.corners.now c.args.d band
    (omega (arith, c.requires.source_height.high)) (omega (arith, c.requires.receiver_height.high)) c.requires.short c.requires.distance)
