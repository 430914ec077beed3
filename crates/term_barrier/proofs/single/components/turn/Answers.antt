use Rattle.std.proofs.Common.{◌≡◌, ◌≤◌, arith, ap, ◌∙◌}
use Rattle.std.specs.Prelude.{ℤ, ◌-ℤ◌, ◌*ℤ◌, unsigned_abs}
use Rattle.scene_geom.specs.declared.directions.direction.Dir.{Dir}
use Rattle.scene_geom.specs.Direction.{FitsDirection}
use Rattle.scene_geom.proofs.Whole.{FitsCross, cross_fits, cross_all, cross_is, abs-cross, cross_along, widened}
use Rattle.term_barrier.proofs.single.components.turn.Goals as goal
use mir.Syntax.{w64, w128}
use mir.Val.{to_z, of_z}

-- the step's parts, widened
record Parts (dir : Dir) (x y r t : ℤ) : Type 0 where
  x_is : r ≡ x
  y_is : t ≡ y
  x_within : unsigned_abs r ≤ 8000000
  y_within : unsigned_abs t ≤ 8000000
  all : FitsCross w128 dir.x t dir.y r

parts : (dir : Dir) (x y r t : ℤ) → FitsDirection dir → unsigned_abs x ≤ 8000000 → unsigned_abs y ≤ 8000000
    → r ≡ to_z w64 (of_z w64 x) → t ≡ to_z w64 (of_z w64 y) → Parts dir x y r t
parts dir x y r t fits within_x within_y of_x of_y =
    let ex = widened r x 8000000 within_x (omega arith) of_x in
    let ey = widened t y 8000000 within_y (omega arith) of_y in
    let hx : unsigned_abs r ≤ 8000000 = rw ex within_x in
    let hy : unsigned_abs t ≤ 8000000 = rw ey within_y in
    record {
      x_is = ex;
      y_is = ey;
      x_within = hx;
      y_within = hy;
      all = cross_fits w128 dir.x t dir.y r 2110000000000000000 8000000 fits.x_within hy fits.y_within hx (omega arith) (omega arith) (omega arith);
    }

found : (c : goal.After-unsigned_abs) → Parts c.args.dir c.args.x c.args.y c.from-step_x.result c.from-step_y.result
found c = parts c.args.dir c.args.x c.args.y _ _ c.requires.dir c.requires.x c.requires.y c.from-step_x.ensures c.from-step_y.ensures

pub overflow_sub-dir : goal.overflow_sub-dir
overflow_sub-dir c =
    cross_all w128 _ _ _ _
    (parts c.args.dir c.args.x c.args.y _ _ c.requires.dir c.requires.x c.requires.y c.from-step_x.ensures c.from-step_y.ensures).all

value : (c : goal.After-unsigned_abs) → c.unsigned_abs.result ≡ unsigned_abs (c.args.dir.x *ℤ c.args.y -ℤ c.args.dir.y *ℤ c.args.x)
value c =
    let p = found c in
    c.unsigned_abs.ensures.value ∙ ap unsigned_abs (cross_is w128 _ _ _ _ p.all ∙ cross_along _ _ _ _ _ _ p.y_is p.x_is)

pub returns-clause-value : goal.returns-clause-value
returns-clause-value c = value c

pub returns-clause-bound : goal.returns-clause-bound
returns-clause-bound c =
    rw (value c) (abs-cross c.args.dir.x c.args.y c.args.dir.y c.args.x 2110000000000000000 8000000 c.requires.dir.x_within c.requires.y c.requires.dir.y_within c.requires.x)
