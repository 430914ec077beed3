use Rattle.std.proofs.Common.{◌≡◌, ◌++◌, filter, take, ◌∙◌, ap, arith, length}
use Rattle.std.specs.List.{filter_map}
use Rattle.std.proofs.lemmas.List.{take_all}
use Rattle.scene_parts.specs.Parts.{sides_of}
use Rattle.part_grid.proofs.Numbered.{obstacle-within}
use Rattle.image_source.specs.inner.Near.{is_near}
use Rattle.image_source.proofs.Nearby.{near_sides, near_crossing, near-at, near-are-all, side-added}
use Rattle.image_source.proofs.near.add_near.Goals as goal

pub bounds-obstacles-near : goal.bounds-obstacles-near
bounds-obstacles-near c =
    obstacle-within sides_of c.args.obstacles.now (near_sides c.args.leg c.args.m.now c.args.ends c.args.obstacles.now) c.loop-near.near-index c.near-item.result
    (near-at c.args.leg c.args.m.now c.args.ends c.args.obstacles.now c.sides-near-items.result.now c.loop-near.near-index c.near-item.result
    (c.sides-near-items.ensures ∙ c.requires.near ∙ ap (filter (is_near c.args.leg c.args.m.now c.args.ends)) c.requires.stands) c.loop-near-test.true c.near-item.is)

pub loop-near-preserved : goal.loop-near-preserved
loop-near-preserved c =
    side-added c.args.leg c.args.m.now c.args.ends c.args.obstacles.now c.sides-near-items.result.now c.loop-near.near-index c.near-item.result c.index-obstacles-near.result
    c.args.crossings.now.items _ _
    (c.sides-near-items.ensures ∙ c.requires.near ∙ ap (filter (is_near c.args.leg c.args.m.now c.args.ends)) c.requires.stands) c.loop-near-test.true c.near-item.is
    c.index-obstacles-near.is c.in_ok-add_crossing.ensures c.loop-near.invariant

pub returns : goal.returns
returns c =
    let sides = near_sides c.args.leg c.args.m.now c.args.ends c.args.obstacles.now in
    let found = c.sides-near-items.ensures ∙ c.requires.near ∙ ap (filter (is_near c.args.leg c.args.m.now c.args.ends)) c.requires.stands in
    let all : take c.loop-near.near-index sides ≡ sides = take_all c.loop-near.near-index sides (omega (arith, c.loop-near-test.false, ap length found)) in
    c.loop-near.invariant
    ∙ ap (λ xs. c.args.crossings.now.items ++ xs) (ap (filter_map (near_crossing c.args.leg c.args.m.now c.args.ends c.args.obstacles.now)) all ∙ near-are-all c.args.leg c.args.m.now c.args.ends c.args.obstacles.now)
