use Rattle.std.proofs.Common.{sym, ◌∙◌}
use Rattle.scene_geom.specs.Direction.{direct}
use Rattle.term_ground.specs.inner.Extents.{regional_of}
use Rattle.term_ground.proofs.Walking.{walked-turned, walked-straight}
use Rattle.term_ground.proofs.coverage.crossed.Crossed.held.Goals as goal

pub returns-then-turns_right : goal.returns-then-turns_right
returns-then-turns_right c = λ line stretches is are.
    rw (c.negated.ensures, c.negated-then-turns_right.ensures, c.negated-then-turns_right-2.ensures)
    (walked-turned (regional_of c.args.self.now.lengths) stretches c.args.outline.now line.s (direct line.s line.r) (is.lengths stretches are)
    (sym c.turns_right.ensures ∙ c.if-turns_right.true))

pub returns-else-turns_right : goal.returns-else-turns_right
returns-else-turns_right c = λ line stretches is are.
    walked-straight (regional_of c.args.self.now.lengths) stretches c.args.outline.now line.s (direct line.s line.r) (is.lengths stretches are)
    (sym c.turns_right.ensures ∙ c.if-turns_right.false)
