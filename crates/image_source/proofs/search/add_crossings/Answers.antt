use Rattle.std.proofs.Common.{◌≡◌, ◌++◌, ◌∙◌, [], drop, ap, sym, append-nil, arith}
use Rattle.std.proofs.lemmas.List.{drop_all}
use Rattle.scene_parts.specs.Parts.{sides_of}
use Rattle.image_source.specs.LegCuts.{crossings_along}
use Rattle.image_source.proofs.Found.{side-added}
use Rattle.image_source.proofs.search.add_crossings.Goals as goal

pub loop-i-preserved : goal.loop-i-preserved
loop-i-preserved c =
    side-added c.args.leg c.args.m.now c.args.ends c.args.number c.args.obstacle.now (sides_of c.args.obstacle.now) c.loop-i.i c.side_of-side.result _ _ _ c.side_of-side.ensures
    c.in_ok-add_crossing.ensures c.loop-i.invariant

pub returns : goal.returns
returns c =
    let none : drop c.loop-i.i (sides_of c.args.obstacle.now) ≡ [] = drop_all c.loop-i.i (sides_of c.args.obstacle.now) (omega (arith, c.sides-i-end.ensures.count, c.loop-i-test.false)) in
    sym (append-nil c.loop-i.found.items) ∙ ap (λ sides. c.loop-i.found.items ++ crossings_along c.args.leg c.args.m.now c.args.ends c.args.number c.loop-i.i c.args.obstacle.now sides) (sym none) ∙ c.loop-i.invariant
