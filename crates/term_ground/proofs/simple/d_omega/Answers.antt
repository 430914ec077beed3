use Rattle.term_ground.specs.Alternative.{solid_angle}
use Rattle.term_ground.proofs.SimpleMethod.{angle-between}
use Rattle.term_ground.proofs.simple.d_omega.Goals as goal

pub returns-clause-bounds : goal.returns-clause-bounds
unfolding solid_angle
returns-clause-bounds c heights square =
    rw (c.mul.ensures, c.logarithm.ensures, c.add-3.ensures, c.div-part.ensures, c.add.ensures, c.add-2.ensures, c.height_square-apart.ensures, c.height_square-together.ensures, c.exact.ensures, c.exact-2.ensures, c.from.ensures, c.from-2.ensures, c.from-3.ensures, c.abs_diff.ensures)
    (angle-between c.args.path.now c.args.q heights square)
