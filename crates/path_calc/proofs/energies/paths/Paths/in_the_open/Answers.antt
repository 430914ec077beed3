use Rattle.std.proofs.Common.{ap, ◌∙◌}
use Rattle.std.specs.Prelude.{pos}
use Rattle.fix_interval.specs.Interval.{Interval}
use Rattle.fix_interval.specs.Tree.{enc}
use Rattle.scene_geom.specs.Fraction.{over}
use Rattle.scene_geom.specs.declared.fractions.fraction.Frac.{Frac}
use Rattle.path_shape.specs.Shape.{plan_square}
use Rattle.path_shape.specs.declared.path.Path.{Path}
use Rattle.path_calc.specs.Lengths.{distance}
use Rattle.path_calc.specs.inner.BarrierAttenuations.{no_attenuations}
use Rattle.path_calc.specs.inner.Hearing.{propagation_past}
use Rattle.path_calc.proofs.energies.paths.Paths.in_the_open.Goals as goal

pub returns-clause-value : goal.returns-clause-value
returns-clause-value c =
    let book = c.args.between.now.scene.now in
    let ends = c.args.between.now.ends in
    let sent = λ (path : Path) (square : Frac) (d : Interval). propagation_past book path square d no_attenuations in
    let square = over (pos (plan_square ends.s ends.r)) (pos 1) in
    c.in_the_open.ensures.value
    ∙ ap (λ (q : Frac). sent c.args.path.now q c.distance-distance.result) c.direct_square.ensures.value
    ∙ ap (sent c.args.path.now square) c.distance-distance.ensures.value
    ∙ ap (λ (path : Path). sent path square (enc (distance ends.s ends.hs ends.r ends.hr))) c.requires.path
