use Rattle.std.proofs.Common.{rules, sym, ◌∙◌}
use Rattle.term_ground.proofs.Walking.{lengths-turned, lengths-straight}
use Rattle.term_ground.proofs.coverage.covering.lengths_inside.Goals as goal

pub returns-then-turns_right : goal.returns-then-turns_right
returns-then-turns_right c =
    rw (c.neg.ensures, c.neg-then-turns_right.ensures, c.neg-then-turns_right-2.ensures)
    (lengths-turned _ c.args.leg.now.stretches c.args.outline.now c.args.leg.now.start c.args.leg.now.dir c.nothing.result c.fold_passages-lengths.result
    c.fold_passages-lengths.ensures c.nothing.ensures (λ l passage k h. search rules) (sym c.turns_right.ensures ∙ c.if-turns_right.true))

pub returns-else-turns_right : goal.returns-else-turns_right
returns-else-turns_right c =
    lengths-straight _ c.args.leg.now.stretches c.args.outline.now c.args.leg.now.start c.args.leg.now.dir c.nothing.result c.fold_passages-lengths.result
    c.fold_passages-lengths.ensures c.nothing.ensures (λ l passage k h. search rules) (sym c.turns_right.ensures ∙ c.if-turns_right.false)
