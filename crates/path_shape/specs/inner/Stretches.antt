-- Lengths of stretches, as a walk along the legs of a path adds them up.
use Rattle.std.specs.Prelude.{List, map, Option, None, Some}
use Rattle.fix_interval.specs.Interval.{Interval}
use Rattle.fix_interval.specs.Values.{add_of}
use Rattle.fix_interval.specs.Tree.{Known, Sub, Min, enc}
use Rattle.scene_geom.specs.declared.plan.Pt.{Pt}
use Rattle.scene_geom.specs.declared.directions.direction.Dir.{Dir}
use Rattle.scene_geom.specs.declared.fractions.fraction.Frac.{Frac}
use Rattle.scene_geom.specs.declared.meetings.crossing.Passage.{Passage}
use Rattle.scene_geom.specs.Fraction.{rest_of}
use Rattle.path_shape.specs.declared.stretch.Stretch.{Stretch}
use Rattle.path_shape.specs.Forms.{zero_form, one_form, plus_all}
use Rattle.path_shape.specs.Outlines.{place_form, counted, length_inside}

-- a stretch of a path on its first leg, which ends at p
abbrev pub on_first_leg : Frac → Stretch → Stretch
on_first_leg p stretch = record { from = stretch.from; to = enc (Min (Known stretch.to) (place_form p)) }

-- and on its second leg, whose places count from the receiver
abbrev pub on_second_leg : Frac → Stretch → Stretch
on_second_leg p stretch = record {
  from = enc (Sub one_form (Known stretch.to));
  to = enc (Min (Sub one_form (Known stretch.from)) (place_form (rest_of p)));
}

-- how much of a stretch an outline holds, on a line from a point along a direction
abbrev pub length_along : List Pt → Pt → Dir → Stretch → Interval
length_along outline from dir stretch = enc (length_inside outline from dir (Known stretch.from) (Known stretch.to))

-- a leg that isn't met adds nothing
abbrev pub joined_lengths : Option Interval → Option Interval → Option Interval
joined_lengths None None = None
joined_lengths None (Some second) = Some (add_of (enc zero_form) second)
joined_lengths (Some first) None = Some (add_of first (enc zero_form))
joined_lengths (Some first) (Some second) = Some (add_of first second)

-- a length with what passages add and take off
abbrev pub walked : List Passage → Interval → Stretch → Interval
walked passages length stretch =
    enc (plus_all (Known length) (map (counted (Known stretch.from) (Known stretch.to)) passages))
