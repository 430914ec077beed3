-- The trace of a source and a receiver: the plan segments along which they read the obstacles and the zones of a scene.
use Rattle.std.specs.Prelude.{List, [], ◌∷◌, ◌++◌, map, flat_map, if◌then◌else◌}
use Rattle.scene_geom.specs.declared.plan.Pt.{Pt}
use Rattle.scene_geom.specs.declared.plan.Side.{Side}
use Rattle.scene_geom.specs.declared.band.Band.{Band}
use Rattle.scene_geom.specs.Bands.{all_bands}
use Rattle.scene_parts.specs.Parts.{Source, Receiver}
use Rattle.scene_book.specs.Book.{Book}
use Rattle.scene_parts.specs.declared.screening.ends.Ends.{Ends}
use Rattle.edge_chain.specs.Chain.{segments_of}
use Rattle.path_calc.specs.declared.bundles.segments.Seg.{Seg}
use Rattle.path_calc.specs.declared.bundles.segments.Seg.TheVariants.{Straight, Legs}
use Rattle.path_calc.specs.LateralPaths.{LateralPath}
use Rattle.path_calc.specs.ReflectedPaths.{ReflectedPath}
use Rattle.path_calc.specs.Surroundings.{Surroundings, ends_of, laterals_at, renewed_at, surroundings_of}

-- a side as a segment
abbrev pub straight : Side → Seg
straight side = Straight side.from side.to

-- the segments of the string that turns at some corners. A string without corners adds none to a trace
abbrev pub string_segments : Ends → List Pt → List Seg
string_segments ends [] = []
string_segments ends (corner ∷ corners) = map straight (segments_of (corner ∷ corners) ends.s ends.r)

-- those of a lateral path, whether sound goes along it or not
abbrev pub lateral_segments : Ends → LateralPath → List Seg
lateral_segments ends path = string_segments ends path.corners

-- those of a band, left and right, where its screening obstacles are others than in the band before
abbrev pub segments_in : Surroundings → Ends → Band → List Seg
segments_in around ends band =
    if renewed_at band around then flat_map (lateral_segments ends) (laterals_at band around) else []

-- both legs of a reflected path, whether its wall is large enough or not
abbrev pub legs_of : Ends → ReflectedPath → Seg
legs_of ends path = Legs path.side ends.s ends.r

-- the direct line, then the lateral paths of each band, then the reflected paths in the order of obstacles and sides
abbrev pub trace_along : Surroundings → Ends → List Seg
trace_along around ends =
    Straight ends.s ends.r
    ∷ (flat_map (segments_in around ends) all_bands ++ map (legs_of ends) around.reflected)

-- the trace of a source and a receiver in a scene
abbrev pub trace_of : Book → Source → Receiver → List Seg
trace_of book s r = trace_along (surroundings_of book s r) (ends_of s r)
