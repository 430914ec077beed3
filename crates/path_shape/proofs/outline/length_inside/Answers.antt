use Rattle.std.proofs.Common.{rules, sym, ◌∙◌}
use Rattle.path_shape.proofs.Walking.{found-turned, found-straight}
use Rattle.path_shape.proofs.outline.length_inside.Goals as goal

pub returns-then-turns_right : goal.returns-then-turns_right
returns-then-turns_right c =
    rw c.neg.ensures
    (found-turned _ c.args.stretch c.args.outline.now c.args.from c.args.dir c.exact.result c.fold_passages-length.result
    c.fold_passages-length.ensures c.exact.ensures (λ a passage b h. search rules) (sym c.turns_right.ensures ∙ c.if-turns_right.true))

pub returns-else-turns_right : goal.returns-else-turns_right
returns-else-turns_right c =
    found-straight _ c.args.stretch c.args.outline.now c.args.from c.args.dir c.exact.result c.fold_passages-length.result
    c.fold_passages-length.ensures c.exact.ensures (λ a passage b h. search rules) (sym c.turns_right.ensures ∙ c.if-turns_right.false)
