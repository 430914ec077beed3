use Rattle.std.proofs.Common.{◌≡◌, ℕ, ◌<◌, false, ◌∙◌, sym, refl, subst, arith}
use Rattle.std.specs.Prelude.{◌==◌}
use Rattle.scene_geom.specs.declared.band.Band.{Band}
use Rattle.path_calc.specs.inner.Ranges.{IsShort}
use Rattle.path_calc.proofs.Measuring.{measured}
use Rattle.path_calc.proofs.Stretching.{nothing-in, empty-stretched, chain-stretched, chain-through, short-chain}
use Rattle.path_calc.proofs.lateral.strings.Stretched.stretch.Goals as goal

some-of : (n : ℕ) → (n == 0) ≡ false → 0 < n
some-of n e = grind arith

pub way_round-requires-clause-short : goal.way_round-requires-clause-short
way_round-requires-clause-short c =
    let ends = c.args.sight.now.ends in
    subst IsShort (sym c.as_slice-corners.ensures.value) (short-chain c.args.points.now ends.s ends.r c.args.hand _ c.in_ok-stretch.ensures.chain)

pub returns-then-is_empty-clause-stretched : goal.returns-then-is_empty-clause-stretched
returns-then-is_empty-clause-stretched c =
    let ends = c.args.sight.now.ends in
    let obstacles = c.args.sight.now.scene.now.obstacles in
    empty-stretched c.clear.new.self ends obstacles c.args.points.now c.args.hand _
    c.in_ok-stretch.ensures.value (sym c.as_slice-corners.ensures.value ∙ nothing-in c.as_slice-corners.result.now c.is_empty.result c.is_empty.ensures c.if-is_empty.true)
    (c.clear.ensures.stretched ends obstacles c.args.hand)

pub returns-then-is_empty-clause-measured : goal.returns-then-is_empty-clause-measured
returns-then-is_empty-clause-measured c = c.clear.ensures.measured c.args.sight.now.ends c.args.sight.now.d

pub returns-clause-stretched : goal.returns-clause-stretched
returns-clause-stretched c =
    let ends = c.args.sight.now.ends in
    chain-stretched _ ends c.args.sight.now.scene.now.obstacles c.args.points.now c.args.hand c.in_ok-stretch.ensures.chain c.in_ok-stretch.ensures.value
    (λ (band : Band). chain-through band ends c.args.sight.now.scene.now.obstacles c.as_slice-corners.result.now _ _ c.as_slice-corners.ensures.value (c.in_ok-find_blocking.ensures band))

pub returns-clause-measured : goal.returns-clause-measured
returns-clause-measured c =
    measured _ c.args.sight.now.ends c.args.sight.now.d c.way_round.result c.as_slice-corners.result.now refl c.as_slice-corners.ensures.value
    (some-of _ (sym c.is_empty.ensures ∙ c.if-is_empty.false))
    c.way_round.ensures.values c.way_round.ensures.bounds
