-- That cuts are edges, and that by them an obstacle screens.
use Rattle.std.specs.Prelude.{◌≡◌, ◌&&◌, List, ◌∷◌, ◌++◌, length, map, filter, ◌==◌}
use Rattle.std.specs.List.{list_any}
use Rattle.scene_geom.specs.declared.band.Band.{Band}
use Rattle.scene_parts.specs.Parts.{Obstacle}
use Rattle.scene_parts.specs.declared.screening.ends.Ends.{Ends}
use Rattle.scene_parts.specs.Crossings.{is_crossing_in}
use Rattle.sight_cut.specs.Cuts.{edges_in, screens_in, crossings_of, cuts_of}

-- without their numbers the crossings in a band are the edges in it
abbrev pub CrossingsAreEdges : Type 0
CrossingsAreEdges = (band : Band) (ends : Ends) (obstacles : List Obstacle)
    → map (λ c. c.edge) (filter (is_crossing_in band) (crossings_of ends obstacles)) ≡ edges_in band ends obstacles

-- an obstacle screens in a band exactly where a cut of its number rises above the line of sight
abbrev pub CutsTellScreens : Type 0
CutsTellScreens = (band : Band) (ends : Ends) (before after : List Obstacle) (o : Obstacle)
    → list_any (λ cut. cut.obstacle == length before && cut.above) (cuts_of band ends (before ++ o ∷ after))
    ≡ screens_in band ends o
