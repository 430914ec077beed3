use Rattle.std.proofs.Common.{◌≡◌, ◌≤◌, ℕ, List, length, sym, ◌∙◌, arith}
use Rattle.std.specs.Prelude.{Some}
use Rattle.scene_parts.specs.Parts.{Obstacle, sides_of}
use Rattle.scene_book.specs.Book.{most_obstacles}
use Rattle.scene_book.specs.Lists.{named}
use Rattle.scene_book.proofs.ListLemmas.{sum-take_out, total-there}
use Rattle.scene_book.proofs.scene.Scene.take_obstacle.Goals as goal

abbrev own_name : Obstacle → List ℕ
own_name o = o.name

abbrev weight : Obstacle → ℕ
weight o = length (sides_of o)

pub overflow_sub-self : goal.overflow_sub-self
overflow_sub-self c =
    let there : named own_name c.args.name.now c.self.inside.obstacles ≡ Some c.in-Some.obstacle = sym c.in_ok-obstacle.ensures.value ∙ c.in-Some.is in
    omega (
      arith,
      c.self.invariant.count,
      c.sides.ensures.count,
      total-there own_name weight c.args.name.now c.in-Some.obstacle c.self.inside.obstacles there,
    )

pub invariant_of-self-2 : goal.invariant_of-self-2
invariant_of-self-2 c =
    let there : named own_name c.args.name.now c.self.inside.obstacles ≡ Some c.in-Some.obstacle = sym c.in_ok-obstacle.ensures.value ∙ c.in-Some.is in
    let out = sum-take_out own_name weight c.args.name.now c.in-Some.obstacle c.self.inside.obstacles there in
    let few : length c.take.new.self ≤ most_obstacles =
    omega (arith, c.self.invariant.within.lists.obstacles, c.in_ok-obstacle.ensures.fewer) in
    record {
      count = rw c.in_ok-obstacle.ensures.left (omega (arith, c.self.invariant.count, c.sides.ensures.count, out));
      within = record {
        lists = assumption (few, c.self.invariant.within.lists);
        sides = rw c.in_ok-obstacle.ensures.left (omega (arith, c.self.invariant.within.sides, out));
      };
      apart = assumption (c.in_ok-obstacle.ensures.apart, c.self.invariant.apart);
    }
