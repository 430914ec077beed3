use Rattle.std.proofs.Common.{◌≡◌, ◌++◌, ◌∙◌, [], drop, ap, sym, append-nil, arith}
use Rattle.std.proofs.lemmas.List.{drop_all}
use Rattle.scene_parts.specs.Parts.{sides_of}
use Rattle.image_source.specs.LegCuts.{crossings_along, crossings_from}
use Rattle.image_source.proofs.Found.{obstacle-added}
use Rattle.image_source.proofs.search.add_leg.Goals as goal

pub loop-obstacle-preserved : goal.loop-obstacle-preserved
loop-obstacle-preserved c =
    let o = c.obstacle-item.result in
    let numbered = ap (λ n. c.loop-obstacle.found.items ++ crossings_along c.args.leg c.args.m.now c.args.ends n 0 o (sides_of o)) c.loop-obstacle.invariant.1 in (
      obstacle-added c.args.leg c.args.m.now c.args.ends c.args.obstacles.now c.loop-obstacle.obstacle-index o _ _ _ c.loop-obstacle-test.true c.obstacle-item.is
          (c.in_ok-add_crossings.ensures ∙ numbered) c.loop-obstacle.invariant.0,
      omega (arith, c.loop-obstacle.invariant.1),
    )

pub overflow_add-number : goal.overflow_add-number
overflow_add-number c = omega (arith, c.loop-obstacle.invariant.1, c.loop-obstacle-test.true, c.requires.few)

pub returns : goal.returns
returns c =
    let none : drop c.loop-obstacle.obstacle-index c.args.obstacles.now ≡ [] = drop_all c.loop-obstacle.obstacle-index c.args.obstacles.now c.loop-obstacle-test.false in
    sym (append-nil c.loop-obstacle.found.items) ∙ ap (λ os. c.loop-obstacle.found.items ++ crossings_from c.args.leg c.args.m.now c.args.ends c.loop-obstacle.obstacle-index os) (sym none)
    ∙ c.loop-obstacle.invariant.0
