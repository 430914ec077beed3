use Rattle.std.proofs.Common.{List, subst}
use Rattle.std.specs.Prelude.{All}
use Rattle.std.proofs.lemmas.List.{take_all}
use Rattle.std.proofs.lemmas.List.Elements.{All-more}
use Rattle.scene_parts.specs.Parts.{Foliage}
use Rattle.scene_undo.specs.Scenes.{IsFoliageWithin}
use Rattle.order_law.proofs.alike.each_foliage.Goals as goal

pub loop-one-preserved : goal.loop-one-preserved
loop-one-preserved c =
    All-more IsFoliageWithin c.args.foliage.now c.loop-one.one-index c.one-item.result c.loop-one-test.true c.loop-one.invariant
    (subst IsFoliageWithin c.one-item.is c.one_foliage.ensures)

pub returns : goal.returns
returns c =
    subst (λ (foliage : List Foliage). All IsFoliageWithin foliage) (take_all c.loop-one.one-index c.args.foliage.now c.loop-one-test.false) c.loop-one.invariant
