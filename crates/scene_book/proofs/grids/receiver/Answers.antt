use Rattle.std.proofs.Common.{◌≡◌, ℤ, to_z, of_z, w32, w64, arith}
use Rattle.std.proofs.lemmas.Int.{ints}
use Rattle.scene_geom.specs.Plan.{InPlan}
use Rattle.scene_book.proofs.grids.receiver.Goals as goal

-- a coordinate of the plan fits 32 bits, and 64
narrow : (z : ℤ) → InPlan z → to_z w32 (of_z w32 z) ≡ z
narrow z h = omega (arith, ints)

wide : (z : ℤ) → InPlan z → to_z w64 (of_z w64 z) ≡ z
wide z h = omega (arith, ints)

pub name_at-requires-clause-name : goal.name_at-requires-clause-name
name_at-requires-clause-name c = rw c.items.ensures.value c.grid.invariant.name

pub name_at-requires-clause-row : goal.name_at-requires-clause-row
name_at-requires-clause-row c =
    let within = rw (← c.grid.view_is) at c.requires.row in
    omega (arith, within, c.grid.invariant.rows.high)

pub name_at-requires-clause-column : goal.name_at-requires-clause-column
name_at-requires-clause-column c =
    let within = rw (← c.grid.view_is) at c.requires.column in
    omega (arith, within, c.grid.invariant.columns.high)

pub along-x-requires-clause-start : goal.along-x-requires-clause-start
along-x-requires-clause-start c = rw (narrow c.grid.inside.at.x c.grid.inside.at.x_in_plan) c.grid.inside.at.x_in_plan

pub along-x-requires-clause-index : goal.along-x-requires-clause-index
along-x-requires-clause-index c = rw (← c.grid.view_is) at c.requires.column

pub along-x-requires-clause-last : goal.along-x-requires-clause-last
along-x-requires-clause-last c = rw (narrow c.grid.inside.at.x c.grid.inside.at.x_in_plan) c.grid.invariant.last_column

pub along-y-requires-clause-start : goal.along-y-requires-clause-start
along-y-requires-clause-start c = rw (narrow c.grid.inside.at.y c.grid.inside.at.y_in_plan) c.grid.inside.at.y_in_plan

pub along-y-requires-clause-index : goal.along-y-requires-clause-index
along-y-requires-clause-index c = rw (← c.grid.view_is) at c.requires.row

pub along-y-requires-clause-last : goal.along-y-requires-clause-last
along-y-requires-clause-last c = rw (narrow c.grid.inside.at.y c.grid.inside.at.y_in_plan) c.grid.invariant.last_row

pub new-requires-clause-x_in_plan : goal.new-requires-clause-x_in_plan
new-requires-clause-x_in_plan c = rw (wide c.along-x.result c.along-x.ensures.in_plan) c.along-x.ensures.in_plan

pub new-requires-clause-y_in_plan : goal.new-requires-clause-y_in_plan
new-requires-clause-y_in_plan c = rw (wide c.along-y.result c.along-y.ensures.in_plan) c.along-y.ensures.in_plan
