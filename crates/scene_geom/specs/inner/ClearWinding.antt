-- The winding of an outline, found side by side: what stands between a walk round it and `meets_of`.
use Rattle.std.specs.Prelude.{ℤ, pos, ◌+ℤ◌, Option, None, Some, List, [], ◌∷◌, if◌then◌else◌}
use Rattle.scene_geom.specs.declared.plan.Pt.{Pt}
use Rattle.scene_geom.specs.declared.plan.Side.{Side}
use Rattle.scene_geom.specs.declared.fractions.fraction.Frac.{Frac}
use Rattle.scene_geom.specs.declared.directions.direction.Dir.{Dir}
use Rattle.scene_geom.specs.declared.meetings.crossing.Passage.{Passage}
use Rattle.scene_geom.specs.Fraction.{is_inside}
use Rattle.scene_geom.specs.Crossing.{passage_of}
use Rattle.scene_geom.specs.Outline.{turn_of}

-- what a side adds to the winding, and none where it crosses strictly between the start and the end
abbrev pub clear_turn_of : Option Passage → Frac → Option ℤ
clear_turn_of None end = Some (pos 0)
clear_turn_of (Some passage) end = if is_inside passage.place end then None else Some (turn_of passage)

-- the sum of two turns, where there are both
abbrev pub add_turns : Option ℤ → Option ℤ → Option ℤ
add_turns None w = None
add_turns (Some t) None = None
add_turns (Some t) (Some w) = Some (t +ℤ w)

-- the winding of sides of which none crosses strictly between
abbrev pub clear_winding_of : List Side → Pt → Dir → Frac → Option ℤ
clear_winding_of [] from dir end = Some (pos 0)
clear_winding_of (side ∷ sides) from dir end =
    add_turns (clear_turn_of (passage_of side from dir) end) (clear_winding_of sides from dir end)
