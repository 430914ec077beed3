use Rattle.std.proofs.Common.{List, subst}
use Rattle.std.specs.Prelude.{All}
use Rattle.std.proofs.lemmas.List.{take_all}
use Rattle.std.proofs.lemmas.List.Elements.{All-more}
use Rattle.scene_parts.specs.Parts.{Zone}
use Rattle.scene_undo.specs.Scenes.{IsZoneWithin}
use Rattle.order_law.proofs.alike.each_zone.Goals as goal

pub loop-zone-preserved : goal.loop-zone-preserved
loop-zone-preserved c =
    All-more IsZoneWithin c.args.zones.now c.loop-zone.zone-index c.zone-item.result c.loop-zone-test.true c.loop-zone.invariant
    (subst IsZoneWithin c.zone-item.is c.one_zone.ensures)

pub returns : goal.returns
returns c =
    subst (λ (zones : List Zone). All IsZoneWithin zones) (take_all c.loop-zone.zone-index c.args.zones.now c.loop-zone-test.false) c.loop-zone.invariant
