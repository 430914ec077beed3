use Rattle.std.proofs.Common.{◌≡◌, ◌∙◌, ◌+◌, ◌-◌, arith}
use Rattle.map_board.specs.declared.looks.LookRow.{LookRow}
use Rattle.level_contours.specs.Looking.{known_total}
use Rattle.level_contours.proofs.Found.{found-step}
use Rattle.level_contours.proofs.lookup.totals.Goals as goal

pub loop-place-preserved : goal.loop-place-preserved
loop-place-preserved c = λ name.
    found-step (λ (row : LookRow). row.name) (λ (row : LookRow). known_total row.shown) c.args.rows.now (c.loop-place.place - 1) c.loop-place.place c.index-rows-place.result
    c.loop-place.totals.entries c.insert.new.self.entries c.in_ok-key.key c.known.result name (omega arith) (omega arith) c.index-rows-place.is
    c.in_ok-_later.ensures.entries (c.in_ok-key.ensures ∙ c.items.ensures.value) c.known.ensures (c.loop-place.invariant name)
