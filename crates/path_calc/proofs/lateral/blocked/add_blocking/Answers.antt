use Rattle.std.proofs.Common.{◌≡◌, take, ◌∙◌, ap, arith, length}
use Rattle.std.specs.Prelude.{◌||◌}
use Rattle.std.specs.List.{list_any}
use Rattle.std.proofs.lemmas.List.{take_all}
use Rattle.scene_parts.specs.Parts.{sides_of}
use Rattle.part_grid.specs.Near.{sides_near}
use Rattle.part_grid.proofs.Numbered.{obstacle-within, looked_any}
use Rattle.path_calc.specs.inner.Strings.{is_within}
use Rattle.path_calc.proofs.Barred.{bars, near_sides, near-at, near-are-all, side-bars, side-passed-by, breadth-counts}
use Rattle.path_calc.proofs.lateral.blocked.add_blocking.Goals.{then-blocks+in_ok-push, else-blocks}
use Rattle.path_calc.proofs.lateral.blocked.add_blocking.Goals as goal

pub bounds-obstacles-near : goal.bounds-obstacles-near
bounds-obstacles-near c =
    obstacle-within sides_of c.args.obstacles.now (near_sides c.args.segment c.args.obstacles.now) c.loop-near.near-index c.near-item.result
    (near-at c.args.segment c.args.obstacles.now c.sides-near-items.result.now c.loop-near.near-index c.near-item.result
    (c.sides-near-items.ensures ∙ c.in_ok-find_near.ensures.found ∙ ap (sides_near c.args.segment.from c.args.segment.to) c.requires.stands) c.loop-near-test.true c.near-item.is)

pub loop-near-preserved : goal.loop-near-preserved
loop-near-preserved c = λ band.
    let sides = c.sides-near-items.ensures ∙ c.in_ok-find_near.ensures.found ∙ ap (sides_near c.args.segment.from c.args.segment.to) c.requires.stands in
    let o = c.index-obstacles-near.result in
    elim c.if-blocks.branch [
      | then-blocks+in_ok-push w ↦
          ap (λ xs. list_any (is_within band) xs.items) w.blocking-is
          ∙ side-bars band c.args.ends c.args.segment c.args.obstacles.now c.sides-near-items.result.now c.loop-near.near-index c.near-item.result o _ _ w.of.result
          (list_any (is_within band) c.args.blocking.now.items) c.blocks-in-loop-near.result
          sides c.loop-near-test.true c.near-item.is c.index-obstacles-near.is c.blocks-in-loop-near.ensures w.if-blocks.true w.in_ok-push.ensures.items
          (breadth-counts band c.args.ends o w.of.result w.of.ensures.extent w.of.ensures.square) (c.loop-near.invariant band)
      | else-blocks w ↦
          ap (λ xs. list_any (is_within band) xs.items) w.blocking-is
          ∙ side-passed-by band c.args.ends c.args.segment c.args.obstacles.now c.sides-near-items.result.now c.loop-near.near-index c.near-item.result o _
          (list_any (is_within band) c.args.blocking.now.items) c.blocks-in-loop-near.result
          sides c.loop-near-test.true c.near-item.is c.index-obstacles-near.is c.blocks-in-loop-near.ensures w.if-blocks.false (c.loop-near.invariant band)
    ]

pub returns : goal.returns
returns c = λ band.
    let near = near_sides c.args.segment c.args.obstacles.now in
    let sides = c.sides-near-items.ensures ∙ c.in_ok-find_near.ensures.found ∙ ap (sides_near c.args.segment.from c.args.segment.to) c.requires.stands in
    let all : take c.loop-near.near-index near ≡ near = take_all c.loop-near.near-index near (omega (arith, c.loop-near-test.false, ap length sides)) in
    c.loop-near.invariant band
    ∙ ap (λ b. list_any (is_within band) c.args.blocking.now.items || b)
    (ap (list_any (looked_any (bars band c.args.ends c.args.segment) c.args.obstacles.now)) all ∙ near-are-all band c.args.ends c.args.segment c.args.obstacles.now)
