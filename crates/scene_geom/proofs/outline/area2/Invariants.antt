use Rattle.std.proofs.Common.{◌≡◌, ◌≤◌, unsigned_abs, ◌*◌, ◌+ℤ◌, ◌∷◌, [], ◌++◌, drop}
use Rattle.scene_geom.specs.Outline.{area2_of, swept, sides_along}
use Rattle.scene_geom.proofs.outline.area2.Given as goal

abbrev pub invariant-loop-next : goal.invariant-loop-next
invariant-loop-next l = record {
  within : unsigned_abs l.doubled ≤ 128000000000000 * l.next-index;
  swept : l.doubled +ℤ swept (sides_along (l.corner ∷ (drop l.next-index l.rest ++ l.first ∷ []))) ≡ area2_of l.outline;
}
