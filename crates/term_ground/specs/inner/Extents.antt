-- Quantities and stretches whose ends are kept in 64 bits.
use Rattle.std.specs.Prelude.{◌≡◌, ◌<◌, ◌^◌, ℤ, Some, pos, unsigned_abs}
use Rattle.std.specs.Int.{int_min, int_max}
use Rattle.fix_interval.specs.Interval.{Interval}
use Rattle.fix_interval.specs.Tree.{enc}
use Rattle.fix_interval.specs.Values.{max_of, min_of, sub_of}
use Rattle.path_shape.specs.Forms.{zero_form}
use Rattle.path_shape.specs.declared.stretch.Stretch.{Stretch}
use Rattle.term_ground.specs.declared.extents.extent.Extent.{Extent}
use Rattle.term_ground.specs.declared.extents.extent.Extents.{Extents}
use Rattle.term_ground.specs.declared.extents.extent.Section.{Section}
use Rattle.term_ground.specs.declared.extents.extent.Sections.{Sections}
use Rattle.term_ground.specs.declared.legs.stretch.Regional.{Regional}
use Rattle.term_ground.specs.declared.legs.stretch.Stretches.{Stretches}

-- as an interval
abbrev pub by_ends : Extent → Interval
by_ends extent = record { lo = Some extent.lo; hi = Some extent.hi }

-- a quantity of each region
abbrev pub regional_of : Extents → Regional
regional_of extents = record {
  source = by_ends extents.source;
  middle = by_ends extents.middle;
  receiver = by_ends extents.receiver;
}

-- a stretch with its ends
pub record IsSection (section : Section) (stretch : Stretch) : Type 0 where
  pub from_is : stretch.from ≡ by_ends section.from
  pub to_is : stretch.to ≡ by_ends section.to

-- the regions with their ends
pub record AreSections (sections : Sections) (stretches : Stretches) : Type 0 where
  pub source : IsSection sections.source stretches.source
  pub middle : IsSection sections.middle stretches.middle
  pub receiver : IsSection sections.receiver stretches.receiver

-- what lies of the stretch between two ends before a place
abbrev pub part_at : Interval → Interval → Interval → Interval
part_at place from to = max_of (enc zero_form) (sub_of (min_of place to) from)

-- a number of units between both ends of a path: what lies before the start counts as the start, and what lies behind
-- the end as the end
abbrev pub clamped : ℤ → ℤ
clamped z = int_max (pos 0) (int_min z (pos (2 ^ 32)))

-- a place on a path, of which this is the place on its whole line
pub record IsPlaceOn (extent : Extent) (place : Interval) : Type 0 where
  pub lo : ℤ
  pub hi : ℤ
  pub place_is : place ≡ record { lo = Some lo; hi = Some hi }
  pub low_fits : unsigned_abs lo < 2 ^ 125
  pub high_fits : unsigned_abs hi < 2 ^ 125
  pub low : extent.lo ≡ clamped lo
  pub high : extent.hi ≡ clamped hi

-- a length of exactly 0
abbrev pub no_length : Interval
no_length = record { lo = Some (pos 0); hi = Some (pos 0) }
