-- The attenuation by screening round vertical edges (ISO 9613-2, 7.4, equations 13 to 17), in dB: sound goes from the
-- source round the corners of a chain to the receiver. K_met is 1 there.
use Rattle.std.specs.Prelude.{ℕ, ◌*◌, pos, List, [], ◌∷◌, fold, map, get_or}
use Rattle.std.specs.Int.{abs_diff}
use Rattle.fix_interval.specs.Interval.{Interval, All}
use Rattle.fix_interval.specs.Tree.{Tree, Known, Const, Add, enc}
use Rattle.scene_geom.specs.declared.plan.Pt.{Pt}
use Rattle.scene_geom.specs.declared.band.Band.{Band}
use Rattle.scene_geom.specs.Bands.{all_bands, place_of}
use Rattle.path_shape.specs.Shape.{plan_length}
use Rattle.term_barrier.specs.Diffraction.{whole, path_difference, at_one_edge, at_two_edges, three_and, attenuation, single_limit, double_limit}

-- the lengths in plan from one corner to the next
abbrev pub steps : Pt → List Pt → List Tree
steps corner [] = []
steps corner (next ∷ others) = plan_length corner next ∷ steps next others

-- e, from the first corner to the last
abbrev pub between_corners : Pt → List Pt → Tree
between_corners first others = fold Add (whole 0) (steps first others)

abbrev pub last_corner : Pt → List Pt → Pt
last_corner corner [] = corner
last_corner corner (next ∷ others) = last_corner next others

-- the square of the difference of two heights in mm, in m²: what is at a right angle to the plan
abbrev pub height_square : ℕ → ℕ → Tree
height_square hs hr = Const (pos (abs_diff hs hr * abs_diff hs hr)) 1000000

-- z of the way round the corners (equations 16 and 17)
unfoldable pub lateral_difference : Pt → ℕ → Pt → ℕ → Pt → List Pt → Tree → Tree
lateral_difference s hs r hr first others d =
    path_difference
    (Add (Add (plan_length s first) (between_corners first others)) (plan_length (last_corner first others) r))
    (height_square hs hr)
    d

-- D_z round the corners, in their order from the source; there is no way round none
abbrev pub side_attenuation : Pt → ℕ → Pt → ℕ → List Pt → Tree → Band → Tree
side_attenuation s hs r hr [] d band = whole 0
side_attenuation s hs r hr (corner ∷ []) d band =
    attenuation single_limit (three_and (at_one_edge band (lateral_difference s hs r hr corner [] d)))
side_attenuation s hs r hr (first ∷ second ∷ others) d band =
    let z = lateral_difference s hs r hr first (second ∷ others) d in
    attenuation double_limit (three_and (at_two_edges band (between_corners first (second ∷ others)) z))

-- D_z round the corners in each band, from the lowest
abbrev pub side_attenuations : Pt → ℕ → Pt → ℕ → List Pt → Interval → List Interval
side_attenuations s hs r hr corners d = map (λ band. enc (side_attenuation s hs r hr corners (Known d) band)) all_bands

-- what stands for a band among such values
abbrev pub in_band : List Interval → Band → Interval
in_band values band = get_or values (place_of band) All
