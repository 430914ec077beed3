use Rattle.std.proofs.Common.{◌≡◌, ◌++◌, ◌∙◌, [], drop, map, ap, sym, append-nil, arith}
use Rattle.std.specs.Prelude.{List, flat_map}
use Rattle.std.proofs.lemmas.List.{drop_all}
use Rattle.scene_parts.specs.Parts.{Obstacle}
use Rattle.path_calc.specs.ReflectedPaths.{reflected_by}
use Rattle.path_calc.specs.inner.Hearing.{reflected_of}
use Rattle.path_calc.proofs.Reflecting.{obstacle-added, few-found}
use Rattle.path_calc.proofs.direct.propagation.Between.add_by_any.Goals as goal

pub loop-obstacle-preserved : goal.loop-obstacle-preserved
loop-obstacle-preserved c =
    let book = c.args.self.now.scene.now in
    obstacle-added book.globals c.args.self.now.from.now book c.args.self.now.ends c.obstacles-obstacle-items.result.now c.loop-obstacle.obstacle-index c.obstacle-item.result _ _ _
    c.loop-obstacle-test.true c.obstacle-item.is c.in_ok-add_reflected.ensures c.loop-obstacle.invariant

pub returns-clause-few : goal.returns-clause-few
returns-clause-few c =
    let book = c.args.self.now.scene.now in
    let ends = c.args.self.now.ends in
    let os = c.obstacles-obstacle-items.result.now in
    let found = c.loop-obstacle.found.items in
    let none : drop c.loop-obstacle.obstacle-index os ≡ [] = drop_all c.loop-obstacle.obstacle-index os c.loop-obstacle-test.false in
    let rest = λ (os : List Obstacle). map (reflected_of book.globals c.args.self.now.from.now ends) (flat_map (reflected_by book ends) os) in
    let all = few-found book.globals c.args.self.now.from.now book ends found (
    sym (append-nil found) ∙ ap (λ (os : List Obstacle). found ++ rest os) (sym none) ∙ c.loop-obstacle.invariant ∙ ap rest c.obstacles-obstacle-items.ensures.value) in
    omega (arith, all, c.obstacles-obstacle-items.ensures.within.sides)
