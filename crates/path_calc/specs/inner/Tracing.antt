-- What stands between the code and the definition of traces: the segments that are added where strings turn to a band.
use Rattle.std.specs.Prelude.{ℕ, Bool, true, false, ◌&&◌, ◌==◌, List, [], ◌∷◌, ◌++◌, flat_map, if◌then◌else◌}
use Rattle.scene_geom.specs.declared.band.Band.{Band}
use Rattle.scene_parts.specs.Parts.{Obstacle}
use Rattle.scene_parts.specs.declared.screening.ends.Ends.{Ends}
use Rattle.sight_cut.specs.Cuts.{crossings_of}
use Rattle.path_calc.specs.declared.bundles.segments.Seg.{Seg}
use Rattle.path_calc.specs.declared.lateral.strings.Strings.{Strings}
use Rattle.path_calc.specs.LateralPaths.{lateral_paths}
use Rattle.path_calc.specs.ScreeningSets.{is_renewed}
use Rattle.path_calc.specs.inner.Strings.{numbers_in}
use Rattle.path_calc.specs.Trace.{string_segments, lateral_segments}

abbrev pub same_numbers : List ℕ → List ℕ → Bool
same_numbers [] [] = true
same_numbers [] (n ∷ ns) = false
same_numbers (m ∷ ms) [] = false
same_numbers (m ∷ ms) (n ∷ ns) = (m == n) && same_numbers ms ns

-- the segments of both strings, where they aren't those round the obstacles of the numbers before
abbrev pub segments_between : Ends → List ℕ → Strings → List Seg
segments_between ends before strings =
    if same_numbers strings.numbers.items before
    then []
    else (string_segments ends strings.left.corners.items ++ string_segments ends strings.right.corners.items)

-- those of the lateral paths in a band, where the numbers of its screening obstacles aren't the numbers before
abbrev pub segments_after : List ℕ → Ends → List Obstacle → Band → List Seg
segments_after before ends obstacles band =
    if same_numbers (numbers_in band (crossings_of ends obstacles)) before
    then []
    else flat_map (lateral_segments ends) (lateral_paths band ends obstacles)

-- those that the trace has of a band
abbrev pub segments_in_band : Ends → List Obstacle → Band → List Seg
segments_in_band ends obstacles band =
    if is_renewed ends obstacles band then flat_map (lateral_segments ends) (lateral_paths band ends obstacles) else []
