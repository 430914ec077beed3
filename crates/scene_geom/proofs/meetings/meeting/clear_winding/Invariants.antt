use Rattle.std.proofs.Common.{◌≡◌, ◌≤◌, unsigned_abs, ◌∷◌, [], ◌++◌, drop}
use Rattle.std.specs.Prelude.{Some}
use Rattle.scene_geom.specs.Outline.{sides_along, ring}
use Rattle.scene_geom.specs.inner.ClearWinding.{add_turns, clear_winding_of}
use Rattle.scene_geom.proofs.meetings.meeting.clear_winding.Given as goal

abbrev pub invariant-loop-next : goal.invariant-loop-next
invariant-loop-next l = record {
  within : unsigned_abs l.winding ≤ l.next-index;
  left : add_turns (Some l.winding) (clear_winding_of (sides_along (l.corner ∷ (drop l.next-index l.rest ++ l.first ∷ []))) l.from l.dir l.end)
      ≡ clear_winding_of (ring l.outline) l.from l.dir l.end;
}
