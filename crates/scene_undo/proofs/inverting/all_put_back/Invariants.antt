use Rattle.std.proofs.Common.{◌≡◌, take}
use Rattle.std.specs.Prelude.{map}
use Rattle.scene_book.specs.Applying.{part_named}
use Rattle.scene_undo.specs.Inverse.{put_back}
use Rattle.scene_undo.proofs.inverting.all_put_back.Given as goal

abbrev pub invariant-loop-receiver : goal.invariant-loop-receiver
invariant-loop-receiver l =
    l.edits.items
    ≡ map (λ name. put_back name (part_named l.before name)) (map (λ r. r.name) (take l.receiver-index l.receivers))
