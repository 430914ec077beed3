use Rattle.std.proofs.Common.{◌∙◌, ◌++◌, ◌∷◌, [], ap}
use Rattle.map_board.proofs.SeenRows.{looks-more}
use Rattle.map_board.proofs.looks.looking.look_at_each.Goals as goal

pub loop-place-preserved : goal.loop-place-preserved
loop-place-preserved c =
    let looked = c.loop-place.looks.items in
    let next = looks-more c.args.receivers.now c.args.rows.now looked c.loop-place.place c.index-receivers-place.result c.index-rows-place.result c.requires c.loop-place-test.true
    c.index-receivers-place.is c.index-rows-place.is c.loop-place.invariant in
    c.in_ok-push.ensures.items ∙ (ap (λ row. looked ++ row ∷ []) c.in_ok-look_at.ensures ∙ next)
