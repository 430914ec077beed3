use Rattle.std.proofs.Common.{subst}
use Rattle.fix_interval.specs.Interval.{Interval}
use Rattle.fix_interval.specs.Bounds.{AreBetween}
use Rattle.std.specs.Prelude.{pos, ◌^◌}
use Rattle.term_ground.specs.Alternative.{simple_ground}
use Rattle.term_ground.proofs.SimpleMethod.{simple-between}
use Rattle.term_ground.proofs.simple.a_gr_simple.Goals as goal

pub returns-clause-bounds : goal.returns-clause-bounds
unfolding simple_ground
returns-clause-bounds c h =
    rw (c.max-2.ensures, c.over_distance.ensures, c.max.ensures, c.exact.ensures, c.exact-2.ensures, c.mean_height.ensures.value)
    (simple-between c.args.path.now c.args.d (subst (λ (i : Interval). AreBetween (pos 0) (pos (2 ^ 55)) i) c.mean_height.ensures.value c.mean_height.ensures.bounds) h)
