use Rattle.std.proofs.Common.{arith, ap, ◌∙◌, sym}
use Rattle.std.proofs.lemmas.Int.{ints}
use Rattle.std.proofs.Math.IntN.{+ℤ_idl}
use Rattle.scene_geom.specs.Outline.{area2_of, swept}
use Rattle.scene_geom.proofs.OutlineLemmas.{sides-step}
use Rattle.scene_geom.proofs.outline.area2.Goals as goal

pub loop-next-init : goal.loop-next-init
loop-next-init c = record {
  within = omega arith;
  swept = +ℤ_idl _ ∙ ap area2_of (sym c.in-Some.ensures.cases.0);
}

pub overflow_add-doubled : goal.overflow_add-doubled
overflow_add-doubled c = omega (arith, ints, c.loop-next.invariant.within, c.swept.ensures.within)

pub loop-next-preserved : goal.loop-next-preserved
loop-next-preserved c =
    let step = ap swept (sides-step c.in-Some.first.now c.loop-next.corner c.next-item.result c.in-Some.rest.now c.loop-next.next-index c.next-item.is (omega arith)) in
    record {
      within = omega (arith, ints, c.loop-next.invariant.within, c.swept.ensures.within);
      swept = omega (arith, ints, c.loop-next.invariant.swept, step, c.swept.ensures.value);
    }
