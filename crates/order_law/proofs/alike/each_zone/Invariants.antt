use Rattle.std.proofs.Common.{All, take}
use Rattle.scene_undo.specs.Scenes.{IsZoneWithin}
use Rattle.order_law.proofs.alike.each_zone.Given as goal

-- the zones so far keep their limits
abbrev pub invariant-loop-zone : goal.invariant-loop-zone
invariant-loop-zone l = All IsZoneWithin (take l.zone-index l.zones)
