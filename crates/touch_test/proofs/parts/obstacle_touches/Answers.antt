use Rattle.touch_test.proofs.Pieces.{first-of, second-of, by-segments}
use Rattle.touch_test.proofs.parts.obstacle_touches.Goals as goal

pub returns-then-crosses_any : goal.returns-then-crosses_any
returns-then-crosses_any c =
    first-of _ _ _ _ c.crosses_any.ensures c.if-crosses_any.true (by-segments c.args.ends c.args.trace.now c.args.obstacle.now)

pub returns-else-crosses_any : goal.returns-else-crosses_any
returns-else-crosses_any c =
    second-of _ _ _ _ _ c.crosses_any.ensures c.if-crosses_any.false c.mirrors.ensures
    (by-segments c.args.ends c.args.trace.now c.args.obstacle.now)
