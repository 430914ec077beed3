use Rattle.std.proofs.Common.{◌≡◌, drop}
use Rattle.serde_json.specs.View.{items_view}
use Rattle.command_lines.specs.Values.{all_of, point_of}
use Rattle.command_lines.proofs.ItemLemmas.{after}
use Rattle.command_lines.proofs.values.points.points_in.Given as goal

abbrev pub invariant-loop-item : goal.invariant-loop-item
invariant-loop-item l = all_of point_of (items_view l.items) ≡ after point_of l.points.items (drop l.item-index l.items)
