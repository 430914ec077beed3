use Rattle.std.proofs.Common.{◌≡◌, ◌∙◌, sym, true, false, arith}
use Rattle.scene_parts.specs.Sides.{sides_in, is_short}
use Rattle.scene_parts.proofs.SideLemmas.{short-step, short-stop, short-all, short-end}
use Rattle.scene_parts.proofs.outlines.shapes.check_sides.Goals as goal

pub returns-then-not-is_short_side-clause-value : goal.returns-then-not-is_short_side-clause-value
returns-then-not-is_short_side-clause-value c =
    let long : is_short c.side_at-side.result ≡ false = sym c.is_short_side.ensures ∙ c.if-not-is_short_side.true in
    let stop = short-stop (sides_in c.args.shape c.args.corners.now) c.loop-i.i c.side_at-side.result c.side_at-side.ensures long in
    rw c.length_of.ensures (sym (c.loop-i.invariant ∙ stop))

pub loop-i-preserved : goal.loop-i-preserved
loop-i-preserved c =
    let is : is_short c.side_at-side.result ≡ true = sym c.is_short_side.ensures ∙ c.if-not-is_short_side.false in
    c.loop-i.invariant ∙ short-step (sides_in c.args.shape c.args.corners.now) c.loop-i.i c.side_at-side.result c.side_at-side.ensures is

pub returns-clause-all : goal.returns-clause-all
returns-clause-all c =
    short-all 0 (sides_in c.args.shape c.args.corners.now)
    (c.loop-i.invariant ∙ short-end (sides_in c.args.shape c.args.corners.now) c.loop-i.i (omega (arith, c.side_count-i-end.ensures, c.loop-i-test.false)))
