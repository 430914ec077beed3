use Rattle.std.proofs.Common.{[], ◌∷◌, flat_map, ap, sym, ◌∙◌}
use Rattle.std.proofs.lemmas.Result.{err_from_is_err_and}
use Rattle.map_text.specs.Rows.{head_row}
use Rattle.map_text.specs.Looks.{receiver_rows}
use Rattle.map_text.specs.Looks.{look_rows}
use Rattle.map_text.proofs.Fronts.{front-of, none-of, front_first, takes_after}
use Rattle.map_text.proofs.rows.Rows.look.Goals as goal

pub returns-in_err-row-clause-taken : goal.returns-in_err-row-clause-taken
returns-in_err-row-clause-taken g c =
    let p = err_from_is_err_and c.from_residual.result c.from_residual.ensures.1 in
    none-of _ _ _ _ p.1 p.2

pub returns-in_err-put-clause-taken : goal.returns-in_err-put-clause-taken
unfolding look_rows
returns-in_err-put-clause-taken g c =
    let p = err_from_is_err_and c.from_residual-in_err-put.result c.from_residual-in_err-put.ensures.1 in
    let rest = flat_map (receiver_rows c.args.self.now.bands c.args.look.now.version) c.args.look.now.rows in
    front-of _ _ _ _ _ _ p.1 p.2 (front_first _ _ _ _ rest _ c.in_err-put.ensures.taken
    (ap (λ t. t ∷ rest) (sym (c.as_slice.ensures.value ∙ (c.in_ok-row.ensures ∙ ap (head_row c.args.head c.args.look.now.version) c.count_of-count.ensures)))))

pub returns-clause-taken : goal.returns-clause-taken
unfolding look_rows
returns-clause-taken g c =
    let rest = flat_map (receiver_rows c.args.self.now.bands c.args.look.now.version) c.args.look.now.rows in
    takes_after _ _ _ _ (c.as_slice.result.now ∷ []) rest _ c.in_ok-put.ensures.taken (rw (c.in_ok-put.ensures.same.0, c.items.ensures) at c.receivers.ensures.taken)
    (ap (λ t. t ∷ rest) (sym (c.as_slice.ensures.value ∙ (c.in_ok-row.ensures ∙ ap (head_row c.args.head c.args.look.now.version) c.count_of-count.ensures))))
