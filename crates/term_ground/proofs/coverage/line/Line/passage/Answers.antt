use Rattle.std.proofs.Common.{ℤ, pos, sym, ap, ◌∙◌}
use Rattle.std.specs.Prelude.{Some, int_lt}
use Rattle.scene_geom.specs.Direction.{direct}
use Rattle.scene_geom.proofs.Crossings.{passage-none, passage-some, over_eq, apart}
use Rattle.scene_geom.proofs.Whole.{restored}
use Rattle.term_ground.proofs.Passages.{reached-is, across-passed, times-one}
use Rattle.term_ground.proofs.coverage.line.Line.passage.Goals as goal

pub returns-then-before-to_left : goal.returns-then-before-to_left
returns-then-before-to_left c =
    let line = c.args.self.now in
    let before = restored c.turn-before.result c.turn-before.ensures.within in
    let after = restored c.turn-after.result c.turn-after.ensures.within in
    sym
    (passage-none c.args.side line.s (direct line.s line.r) c.turn-before.result c.turn-after.result
    (record { before_is = c.turn-before.ensures.value; after_is = c.turn-after.ensures.value }) (rw (before, after) at c.if-before-to_left.true))

pub fraction-requires-clause-divides : goal.fraction-requires-clause-divides
fraction-requires-clause-divides c e =
    let before = restored c.turn-before.result c.turn-before.ensures.within in
    let after = restored c.turn-after.result c.turn-after.ensures.within in
    apart c.turn-after.result c.turn-before.result (rw (before, after) at c.if-before-to_left.false)
    (sym (across-passed c.turn-after.result c.turn-before.result c.turn-after.ensures.within c.turn-before.ensures.within) ∙ e)

pub returns : goal.returns
returns c =
    let line = c.args.self.now in
    let side = c.args.side in
    let before = restored c.turn-before.result c.turn-before.ensures.within in
    let after = restored c.turn-after.result c.turn-after.ensures.within in
    let n = restored c.turn-reached.result c.turn-reached.ensures.within ∙ sym (times-one c.turn-reached.result) in
    let d = across-passed c.turn-after.result c.turn-before.result c.turn-after.ensures.within c.turn-before.ensures.within in
    ap (λ (z : ℤ). Some (record { place = c.fraction.result; to_left = int_lt (pos 0) z })) after
    ∙ sym
    (passage-some side line.s (direct line.s line.r) c.turn-before.result c.turn-after.result c.turn-reached.result c.fraction.result
    (record { before_is = c.turn-before.ensures.value; after_is = c.turn-after.ensures.value })
    (reached-is line.s side.from side.to c.turn-reached.result c.turn-reached.ensures.value)
    (rw (before, after) at c.if-before-to_left.false) (c.fraction.ensures ∙ over_eq _ _ _ _ n d))
