use Rattle.std.proofs.Common.{◌≡◌, ◌++◌, ◌∙◌, [], drop, map, ap, sym, append-nil, arith}
use Rattle.std.specs.List.{enumerate_from}
use Rattle.std.proofs.lemmas.List.{drop_all}
use Rattle.scene_parts.specs.Parts.{sides_of}
use Rattle.part_grid.specs.Numbered.{owned_by}
use Rattle.sight_cut.proofs.Nearby.{side-numbered}
use Rattle.sight_cut.proofs.near.add_sides.Goals as goal

pub loop-index-preserved : goal.loop-index-preserved
loop-index-preserved c =
    side-numbered c.args.number c.loop-index.index (sides_of c.args.obstacle.now) c.side_of-side.result _ _ _ c.side_of-side.ensures c.in_ok-push.ensures.items c.loop-index.invariant

pub returns : goal.returns
returns c =
    let none : drop c.loop-index.index (sides_of c.args.obstacle.now) ≡ [] = drop_all c.loop-index.index (sides_of c.args.obstacle.now) (omega (arith, c.sides-index-end.ensures.count, c.loop-index-test.false)) in
    sym (append-nil c.loop-index.owned.items) ∙ ap (λ sides. c.loop-index.owned.items ++ map (owned_by c.args.number) (enumerate_from c.loop-index.index sides)) (sym none) ∙ c.loop-index.invariant
