use Rattle.std.proofs.Common.{ℕ, List, length, sym, arith}
use Rattle.scene_parts.specs.Parts.{Obstacle, sides_of}
use Rattle.scene_parts.proofs.SideLemmas.{no_more_sides}
use Rattle.scene_book.proofs.ListLemmas.{sum-put_in-there, sum-put_in-new, total-there}
use Rattle.scene_book.proofs.scene.Scene.sides_with.Goals as goal

abbrev own_name : Obstacle → List ℕ
own_name o = o.name

abbrev weight : Obstacle → ℕ
weight o = length (sides_of o)

pub overflow_sub-result : goal.overflow_sub-result
overflow_sub-result c =
    omega (
      arith,
      c.self.invariant.count,
      c.sides.ensures.count,
      total-there own_name weight c.name.result.now c.in-Some.old.now c.self.inside.obstacles (sym c.in-Some.ensures),
    )

pub overflow_add-result : goal.overflow_add-result
overflow_add-result c =
    omega (
      arith,
      c.self.invariant.count,
      c.self.invariant.within.sides,
      c.sides-in-Some.ensures.count,
      c.sides-in-Some.ensures.kept.few,
      no_more_sides c.args.obstacle.now.shape c.args.obstacle.now.points,
    )

pub overflow_add-result-in-None : goal.overflow_add-result-in-None
overflow_add-result-in-None c =
    omega (
      arith,
      c.self.invariant.count,
      c.self.invariant.within.sides,
      c.sides-in-None.ensures.count,
      c.sides-in-None.ensures.kept.few,
      no_more_sides c.args.obstacle.now.shape c.args.obstacle.now.points,
    )

pub returns-in-Some : goal.returns-in-Some
returns-in-Some c =
    let e = rw c.name.ensures at (sym c.in-Some.ensures) in
    rw (← c.self.view_is)
    (omega (
      arith,
      c.self.invariant.count,
      c.sides.ensures.count,
      c.sides-in-Some.ensures.count,
      total-there own_name weight c.args.obstacle.now.name c.in-Some.old.now c.self.inside.obstacles e,
      sum-put_in-there own_name weight c.args.obstacle.now c.in-Some.old.now c.self.inside.obstacles e,
    ))

pub returns-in-None : goal.returns-in-None
returns-in-None c =
    let e = rw c.name.ensures at (sym c.in-None.ensures) in
    rw (← c.self.view_is)
    (omega (arith, c.self.invariant.count, c.sides-in-None.ensures.count, sum-put_in-new own_name weight c.args.obstacle.now c.self.inside.obstacles e))
