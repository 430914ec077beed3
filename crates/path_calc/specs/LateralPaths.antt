-- The ways round the sides of what screens (ISO 9613-2, 7.4, equation 13). In a band a string is stretched from source
-- to receiver round the corners of all obstacles that screen there, on the left hand and on the right; sound goes along
-- it where nothing is in its way.
use Rattle.std.specs.Prelude.{Bool, false, not, ◌&&◌, List, [], ◌∷◌, map, filter, flat_map, if◌then◌else◌}
use Rattle.std.specs.List.{list_any}
use Rattle.scene_geom.specs.declared.plan.Pt.{Pt}
use Rattle.scene_geom.specs.declared.band.Band.{Band}
use Rattle.scene_geom.specs.Bands.{all_bands}
use Rattle.scene_parts.specs.Parts.{Obstacle, sides_of}
use Rattle.scene_parts.specs.declared.screening.ends.Ends.{Ends}
use Rattle.scene_parts.specs.Crossings.{counts_in}
use Rattle.sight_cut.specs.Cuts.{screens_in}
use Rattle.edge_chain.specs.declared.hand.Hand.{Hand}
use Rattle.edge_chain.specs.declared.hand.Hand.TheVariants.{Left, Right}
use Rattle.edge_chain.specs.Chain.{chain_of, blocks_chain}

-- a lateral path: the corners at which its string turns, from the source on, and whether sound goes along it
pub record LateralPath : Type 0 where
  pub corners : List Pt
  pub leads : Bool

-- the corners of all obstacles that screen in a band
abbrev pub screening_corners : Band → Ends → List Obstacle → List Pt
screening_corners band ends obstacles = flat_map (λ o. o.points) (filter (screens_in band ends) obstacles)

-- an obstacle cuts off the sound along a string in a band: it is large enough to screen there, and the string leads
-- through it, which is more than to turn at its corner
abbrev pub is_in_the_way : Band → Ends → List Pt → Obstacle → Bool
is_in_the_way band ends corners o = counts_in band ends o && list_any (blocks_chain corners ends.s ends.r) (sides_of o)

-- sound goes along a string in a band where it turns at a corner at least, and no obstacle is in the way, those that
-- screen included
abbrev pub leads_in : Band → Ends → List Obstacle → List Pt → Bool
leads_in band ends obstacles [] = false
leads_in band ends obstacles (corner ∷ corners) =
    not (list_any (is_in_the_way band ends (corner ∷ corners)) obstacles)

-- the lateral path on a hand
abbrev pub lateral_path : Band → Ends → List Obstacle → Hand → LateralPath
lateral_path band ends obstacles hand =
    let corners = chain_of (screening_corners band ends obstacles) ends.s ends.r hand in
    record { corners = corners; leads = leads_in band ends obstacles corners }

-- the lateral paths in a band, left and right, where an obstacle screens, and else none
abbrev pub lateral_paths : Band → Ends → List Obstacle → List LateralPath
lateral_paths band ends obstacles =
    if list_any (screens_in band ends) obstacles
    then map (lateral_path band ends obstacles) (Left ∷ Right ∷ [])
    else []

-- those in each band
abbrev pub lateral_paths_round : Ends → List Obstacle → List (List LateralPath)
lateral_paths_round ends obstacles = map (λ band. lateral_paths band ends obstacles) all_bands
