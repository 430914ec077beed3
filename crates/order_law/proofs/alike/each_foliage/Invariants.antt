use Rattle.std.proofs.Common.{All, take}
use Rattle.scene_undo.specs.Scenes.{IsFoliageWithin}
use Rattle.order_law.proofs.alike.each_foliage.Given as goal

-- the foliage so far keeps its limit
abbrev pub invariant-loop-one : goal.invariant-loop-one
invariant-loop-one l = All IsFoliageWithin (take l.one-index l.foliage)
