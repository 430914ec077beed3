-- The distance through foliage is found one foliage after another.
use Rattle.std.specs.Prelude.{List, Option, None, Some, if◌then◌else◌}
use Rattle.std.specs.List.{fold}
use Rattle.fix_interval.specs.Interval.{Interval}
use Rattle.fix_interval.specs.Values.{add_of}
use Rattle.fix_interval.specs.Tree.{Tree, enc}
use Rattle.scene_parts.specs.Parts.{Foliage}
use Rattle.path_shape.specs.declared.path.Path.{Path}
use Rattle.path_shape.specs.declared.stretch.Stretch.{Stretch}
use Rattle.path_shape.specs.Forms.{zero_form}
use Rattle.path_shape.specs.Outlines.{meets_legs}
use Rattle.term_foliage.specs.Foliage.{length_in}

-- a stretch by the intervals of where it begins and ends
abbrev pub known_stretch : Tree × Tree → Stretch
known_stretch stretch = record { from = enc stretch.0; to = enc stretch.1 }

-- how much of a path runs through a foliage, where it meets it
abbrev pub met_length : Path → Foliage → Option Tree
met_length path foliage =
    if meets_legs path.legs path.s path.r foliage.points then length_in path foliage else None

-- a total with one length more, where there is one
abbrev pub with_length : Option Interval → Option Interval → Option Interval
with_length total None = total
with_length None (Some length) = Some (add_of (enc zero_form) length)
with_length (Some total) (Some length) = Some (add_of total length)

abbrev pub with_lengths : Option Interval → List Interval → Option Interval
with_lengths total lengths = fold (λ t length. with_length t (Some length)) total lengths
