use Rattle.std.proofs.Common.{◌≡◌, take, ◌∙◌, ap, arith, length}
use Rattle.std.specs.List.{filter_map}
use Rattle.std.proofs.lemmas.List.{take_all}
use Rattle.scene_parts.specs.Parts.{sides_of}
use Rattle.part_grid.specs.Near.{sides_near}
use Rattle.part_grid.proofs.Numbered.{obstacle-within}
use Rattle.sight_cut.proofs.Nearby.{near_sides, near_crossing, near-at, near-are-all, side-added}
use Rattle.sight_cut.proofs.near.find_crossings_near.Goals as goal

-- the sides that are gone through are those near the line
pub bounds-obstacles-near : goal.bounds-obstacles-near
bounds-obstacles-near c =
    obstacle-within sides_of c.args.obstacles.now (near_sides c.args.ends c.args.obstacles.now) c.loop-near.near-index c.near-item.result
    (near-at c.args.ends c.args.obstacles.now c.sides-near-items.result.now c.loop-near.near-index c.near-item.result
    (c.sides-near-items.ensures ∙ c.in_ok-find_near.ensures.found ∙ ap (sides_near c.args.ends.s c.args.ends.r) c.requires.stands) c.loop-near-test.true c.near-item.is)

pub loop-near-preserved : goal.loop-near-preserved
loop-near-preserved c =
    side-added c.args.ends c.args.obstacles.now c.sides-near-items.result.now c.loop-near.near-index c.near-item.result c.index-obstacles-near.result _ _
    (c.sides-near-items.ensures ∙ c.in_ok-find_near.ensures.found ∙ ap (sides_near c.args.ends.s c.args.ends.r) c.requires.stands) c.loop-near-test.true c.near-item.is
    c.index-obstacles-near.is c.in_ok-add_crossing.ensures c.loop-near.invariant

pub returns : goal.returns
returns c =
    let sides = near_sides c.args.ends c.args.obstacles.now in
    let found = c.sides-near-items.ensures ∙ c.in_ok-find_near.ensures.found ∙ ap (sides_near c.args.ends.s c.args.ends.r) c.requires.stands in
    let all : take c.loop-near.near-index sides ≡ sides = take_all c.loop-near.near-index sides (omega (arith, c.loop-near-test.false, ap length found)) in
    c.loop-near.invariant ∙ ap (filter_map (near_crossing c.args.ends c.args.obstacles.now)) all ∙ near-are-all c.args.ends c.args.obstacles.now
