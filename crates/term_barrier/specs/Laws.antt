-- What holds of the attenuation by screening beyond its definition.
use Rattle.std.specs.Prelude.{◌≡◌, ℕ, Bool, List, map, filter, IfSome}
use Rattle.fix_interval.specs.Tree.{Tree, IsSound}
use Rattle.scene_geom.specs.declared.plan.Pt.{Pt}
use Rattle.scene_geom.specs.declared.plan.Side.{Side}
use Rattle.scene_geom.specs.Direction.{direct}
use Rattle.scene_geom.specs.Crossing.{crosses_of}
use Rattle.scene_geom.specs.declared.band.Band.{Band}
use Rattle.scene_parts.specs.declared.screening.edge.Edge.{Edge}
use Rattle.path_shape.specs.declared.path.Path.{Path}
use Rattle.term_barrier.specs.Edges.{FitsEdge}
use Rattle.term_barrier.specs.Screening.{marked, screening}
use Rattle.term_barrier.specs.Lateral.{side_attenuation}

-- its formula is sound where those of the lengths and of the ground are, so that its interval encloses it
abbrev pub ScreeningIsSound : Type 0
ScreeningIsSound = (path : Path) (dp : Tree) (edges : List Edge) (d gr : Tree) (band : Band)
    → IsSound dp → IsSound d → IsSound gr → IsSound (screening path dp edges d gr band)

abbrev pub SideAttenuationIsSound : Type 0
SideAttenuationIsSound = (s : Pt) (hs : ℕ) (r : Pt) (hr : ℕ) (corners : List Pt) (d : Tree) (band : Band)
    → IsSound d → IsSound (side_attenuation s hs r hr corners d band)

-- where a side crosses the line of sight there is an edge that fits
abbrev pub CrossingsFit : Type 0
CrossingsFit = (side : Side) (s r : Pt) (h : ℕ) (above : Bool)
    → IfSome (crosses_of side s r)
    (λ t. FitsEdge (record { t = t; side = side; dir = direct s r; h = h; above = above }))

-- things that are marked by a test are those that pass it
abbrev pub MarksFilter : Type 0
MarksFilter = (edges : List Edge) (test : Edge → Bool) → marked (map test edges) edges ≡ filter test edges
