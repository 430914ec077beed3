-- The ground factors of the three regions are found at once, zone by
-- zone, leg by leg and side by side.
use Rattle.std.specs.Prelude.{◌≡◌, List, map, Option, None, Some, IsSomeAnd}
use Rattle.std.specs.Bool.{then_some}
use Rattle.fix_interval.specs.Interval.{Interval}
use Rattle.fix_interval.specs.Tree.{Tree, Known, Add, Sub, Mul, Div, enc}
use Rattle.fix_interval.specs.Values.{add_of, mul_of, div_of}
use Rattle.scene_geom.specs.declared.plan.Pt.{Pt}
use Rattle.scene_geom.specs.declared.directions.direction.Dir.{Dir}
use Rattle.scene_geom.specs.declared.fractions.fraction.Frac.{Frac}
use Rattle.scene_geom.specs.Fraction.{rest_of}
use Rattle.scene_geom.specs.Outline.{meets_of}
use Rattle.scene_parts.specs.Parts.{Zone}
use Rattle.path_shape.specs.declared.legs.Legs.{Legs}
use Rattle.path_shape.specs.declared.legs.Legs.TheVariants.{One, Two}
use Rattle.path_shape.specs.declared.path.Path.{Path}
use Rattle.term_ground.specs.declared.legs.region.Region.{Region}
use Rattle.term_ground.specs.declared.legs.region.Region.TheVariants.{Source, Middle, Receiver}
use Rattle.path_shape.specs.declared.stretch.Stretch.{Stretch}
use Rattle.path_shape.specs.inner.Stretches.{on_first_leg, on_second_leg}
use Rattle.term_ground.specs.declared.legs.stretch.Stretches.{Stretches}
use Rattle.term_ground.specs.declared.legs.stretch.Regional.{Regional}
use Rattle.term_ground.specs.declared.legs.leg.Leg.{Leg}
use Rattle.term_ground.specs.declared.legs.leg.Route.{Route}
use Rattle.path_shape.specs.Forms.{zero_form, plus_all}
use Rattle.term_ground.specs.Lengths.{factor}
use Rattle.path_shape.specs.Outlines.{whole, length_inside, meets_legs, length_on_legs}
use Rattle.term_ground.specs.Zones.{met_zones}
use Rattle.term_ground.specs.Regions.{region_start, region_end}

-- ---- regions

-- where a region of a path begins and ends
abbrev pub stretch_of : Region → Path → Stretch
stretch_of region path = record {
  from = enc (region_start region path (Known path.dp));
  to = enc (region_end region path (Known path.dp));
}

abbrev pub stretches_of : Path → Stretches
stretches_of path = record {
  source = stretch_of Source path;
  middle = stretch_of Middle path;
  receiver = stretch_of Receiver path;
}

-- the same quantity for each region
abbrev pub same : Interval → Regional
same i = record { source = i; middle = i; receiver = i }

abbrev pub nothing : Regional
nothing = same (enc zero_form)

-- what a rule gives for the stretch of each region
abbrev pub of_stretches : (Stretch → Interval) → Stretches → Regional
of_stretches rule stretches = record {
  source = rule stretches.source;
  middle = rule stretches.middle;
  receiver = rule stretches.receiver;
}

-- what it makes of a quantity of each region
abbrev pub advanced : (Interval → Stretch → Interval) → Regional → Stretches → Regional
advanced rule quantities stretches = record {
  source = rule quantities.source stretches.source;
  middle = rule quantities.middle stretches.middle;
  receiver = rule quantities.receiver stretches.receiver;
}

-- ---- legs

-- a leg of a path with its start, direction and end, and the regions of the path as places on it
pub record IsLeg (leg : Leg) (start : Pt) (dir : Dir) (end : Frac) (stretches : Stretches) : Type 0 where
  pub start_is : leg.start ≡ start
  pub dir_is : leg.dir ≡ dir
  pub end_is : leg.end ≡ end
  pub stretches_are : leg.stretches ≡ stretches

-- the same rule for the stretch of each region
abbrev pub each_stretch : (Stretch → Stretch) → Stretches → Stretches
each_stretch rule stretches = record {
  source = rule stretches.source;
  middle = rule stretches.middle;
  receiver = rule stretches.receiver;
}

-- the legs of a path, with its regions on them
abbrev pub HasLegs : Legs → Pt → Pt → Stretches → Leg → Option Leg → Type 0
HasLegs (One dir) s r stretches first second = IsLeg first s dir whole stretches × (second ≡ None)
HasLegs (Two to_wall to_wall_from_r p) s r stretches first second =
    IsLeg first s to_wall p (each_stretch (on_first_leg p) stretches)
    × IsSomeAnd second (λ leg. IsLeg leg r to_wall_from_r (rest_of p) (each_stretch (on_second_leg p) stretches))

pub record IsRoute (route : Route) (path : Path) : Type 0 where
  pub stretches_are : route.stretches ≡ stretches_of path
  pub legs_are : HasLegs path.legs path.s path.r route.stretches route.first route.second

-- how much of each stretch an outline holds, on a line from a point along a direction
abbrev pub lengths_along : List Pt → Pt → Dir → Stretches → Regional
lengths_along outline from dir stretches =
    of_stretches (λ stretch. enc (length_inside outline from dir (Known stretch.from) (Known stretch.to))) stretches

-- how much of each region it holds on a leg that it meets
abbrev pub lengths_on_leg : List Pt → Leg → Option Regional
lengths_on_leg outline leg =
    then_some (meets_of outline leg.start leg.dir leg.end) (lengths_along outline leg.start leg.dir leg.stretches)

-- the sums of lengths on two legs
abbrev pub sums_of : Regional → Regional → Regional
sums_of first second = record {
  source = enc (Add (Known first.source) (Known second.source));
  middle = enc (Add (Known first.middle) (Known second.middle));
  receiver = enc (Add (Known first.receiver) (Known second.receiver));
}

-- a leg that isn't met adds nothing
abbrev pub joined_lengths : Option Regional → Option Regional → Option Regional
joined_lengths None None = None
joined_lengths None (Some second) = Some (sums_of nothing second)
joined_lengths (Some first) None = Some (sums_of first nothing)
joined_lengths (Some first) (Some second) = Some (sums_of first second)

-- how much of each region of a path an outline holds, where it meets the path
abbrev pub lengths_on_path : List Pt → Path → Option Regional
lengths_on_path outline path =
    then_some
    (meets_legs path.legs path.s path.r outline)
    (of_stretches
    (λ stretch. enc (length_on_legs path.legs path.s path.r outline (Known stretch.from) (Known stretch.to)))
    (stretches_of path))

-- ---- zones

-- the term of a zone, where the ground factor outside of zones is known
abbrev pub known_term : Interval → Path → Stretch → Zone → Tree
known_term outside path stretch zone =
    Div
    (Mul
    (Sub (factor zone.g) (Known outside))
    (length_on_legs path.legs path.s path.r zone.points (Known stretch.from) (Known stretch.to)))
    (Sub (Known stretch.to) (Known stretch.from))

-- a sum with the difference that a zone makes over a length, as a part of the width of a stretch
abbrev pub with_term_of : Interval → Interval → Interval → Interval → Interval
with_term_of sum difference length width = add_of sum (div_of (mul_of difference length) width)

-- a sum with the terms of zones
abbrev pub summed : List Zone → Interval → Path → Interval → Stretch → Interval
summed zones outside path sum stretch =
    enc (plus_all (Known sum) (map (known_term outside path stretch) (met_zones path zones)))

-- what zones add to sums, in each region of a path
abbrev pub with_zones : List Zone → Interval → Path → Regional → Regional
with_zones zones outside path sums = advanced (summed zones outside path) sums (stretches_of path)
