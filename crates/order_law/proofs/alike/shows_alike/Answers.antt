use Rattle.std.proofs.Common.{subst, List}
use Rattle.std.specs.Prelude.{All}
use Rattle.scene_parts.specs.Parts.{Zone, Foliage, AreGlobals}
use Rattle.scene_undo.specs.Scenes.{IsZoneWithin, IsFoliageWithin}
use Rattle.order_law.proofs.Shown.{scene-alike}
use Rattle.order_law.proofs.alike.shows_alike.Goals as goal

pub returns : goal.returns
returns c alike =
    scene-alike c.args.a.now c.args.b.now c.args.r.now alike c.zones.ensures.within
    (subst (λ (zones : List Zone). All IsZoneWithin zones) c.zones.ensures.value c.each_zone.ensures)
    (subst (λ (foliage : List Foliage). All IsFoliageWithin foliage) c.foliage.ensures.value c.each_foliage.ensures)
    (subst AreGlobals c.globals.ensures c.all_globals.ensures)
