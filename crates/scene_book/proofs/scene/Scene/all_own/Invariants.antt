use Rattle.std.proofs.Common.{◌≡◌, drop}
use Rattle.scene_book.specs.Applying.{all_own}
use Rattle.scene_book.proofs.scene.Scene.all_own.Given as goal

abbrev pub invariant-loop-receiver : goal.invariant-loop-receiver
invariant-loop-receiver l = all_own l.self l.receivers ≡ all_own l.self (drop l.receiver-index l.receivers)
