use Rattle.std.proofs.Common.{◌≡◌, ◌≤◌, arith, ap, ◌∙◌}
use Rattle.std.specs.Prelude.{ℤ, ◌*ℤ◌, unsigned_abs}
use Rattle.scene_geom.specs.declared.directions.direction.Dir.{Dir}
use Rattle.scene_geom.specs.Direction.{FitsDirection}
use Rattle.scene_geom.proofs.Whole.{abs-mul, widened, product_fits, product_is}
use Rattle.scene_geom.proofs.meetings.crossing.scaled.Goals as goal
use mir.Syntax.{w64, w128}
use mir.Val.{SFits, to_z, of_z}

-- the product of the widened number
record Scaled (r z : ℤ) (dir : Dir) : Type 0 where
  fits : SFits w128 (to_z w128 (of_z w128 r) *ℤ to_z w128 (of_z w128 dir.w))
  is : to_z w128 (of_z w128 (to_z w128 (of_z w128 r) *ℤ to_z w128 (of_z w128 dir.w))) ≡ z *ℤ dir.w

scaled : (r z : ℤ) (dir : Dir) → FitsDirection dir → unsigned_abs z ≤ 128000000000000 → r ≡ to_z w64 (of_z w64 z) → Scaled r z dir
scaled r z dir fits within e =
    let same = widened r z 128000000000000 within (omega arith) e in
    let r_within : unsigned_abs r ≤ 128000000000000 = rw same within in
    record {
      fits = product_fits r dir.w 128000000000000 68718952449 r_within fits.w_within (omega arith) (omega arith) (omega arith);
      is = product_is r dir.w 128000000000000 68718952449 r_within fits.w_within (omega arith) (omega arith) (omega arith) ∙ ap (λ (n : ℤ). n *ℤ dir.w) same;
    }

pub overflow_mul-result : goal.overflow_mul-result
overflow_mul-result c = (scaled c.from.result c.args.reached c.args.dir c.requires.fits c.requires.within c.from.ensures).fits

pub returns-clause-value : goal.returns-clause-value
returns-clause-value c = (scaled c.from.result c.args.reached c.args.dir c.requires.fits c.requires.within c.from.ensures).is

pub returns-clause-within : goal.returns-clause-within
returns-clause-within c =
    rw
    ((scaled c.from.result c.args.reached c.args.dir c.requires.fits c.requires.within c.from.ensures).is)
    (abs-mul c.args.reached c.args.dir.w 128000000000000 68718952449 c.requires.within c.requires.fits.w_within)
