-- What a source and a receiver read of the parts of a scene. Beside it they read only what holds of the whole scene.
-- Parts stand in it by their values, none by its name or its place in a list: so an edit elsewhere leaves it as it is.
use Rattle.std.specs.Prelude.{Bool, false, List, [], map, slice_index_or}
use Rattle.scene_geom.specs.declared.band.Band.{Band}
use Rattle.scene_geom.specs.Bands.{all_bands, place_of}
use Rattle.scene_parts.specs.Parts.{Source, Receiver, Obstacle, Zone, Foliage}
use Rattle.scene_book.specs.Book.{Book}
use Rattle.path_shape.specs.Shape.{direct_path}
use Rattle.path_shape.specs.declared.path.Path.{Path}
use Rattle.scene_parts.specs.declared.screening.edge.Edge.{Edge}
use Rattle.scene_parts.specs.declared.screening.ends.Ends.{Ends}
use Rattle.sight_cut.specs.Cuts.{edges_in}
use Rattle.path_calc.specs.GroundZones.{zones_on, foliage_on}
use Rattle.path_calc.specs.LateralPaths.{LateralPath, lateral_paths_round}
use Rattle.path_calc.specs.ReflectedPaths.{ReflectedPath, reflected_paths}
use Rattle.path_calc.specs.ScreeningSets.{renewals}

pub record Surroundings : Type 0 where
  -- the zones of ground that the direct path meets
  pub zones : List Zone
  -- the foliage that it meets
  pub foliage : List Foliage
  -- for each band the edges on the direct path, of the obstacles that are large enough in it
  pub edges : List (List Edge)
  -- for each band the paths round the sides of the obstacles that screen in it
  pub laterals : List (List LateralPath)
  -- for each band whether other obstacles screen in it than in the band before
  pub renewed : List Bool
  -- the paths by way of reflecting walls
  pub reflected : List ReflectedPath

-- the direct path from a source to a receiver, and the ends of the line of sight between them
abbrev pub path_of : Source → Receiver → Path
path_of s r = direct_path s.at s.h r.at r.h

abbrev pub ends_of : Source → Receiver → Ends
ends_of s r = record { s = s.at; hs = s.h; r = r.at; hr = r.h }

-- the edges on a line of sight in each band (ISO 9613-2, 7.4), in the order of obstacles and sides
abbrev pub edges_on : Ends → List Obstacle → List (List Edge)
edges_on ends obstacles = map (λ band. edges_in band ends obstacles) all_bands

-- those in a band
abbrev pub edges_at : Band → Surroundings → List Edge
edges_at band around = slice_index_or around.edges (place_of band) []

-- the lateral paths in a band
abbrev pub laterals_at : Band → Surroundings → List LateralPath
laterals_at band around = slice_index_or around.laterals (place_of band) []

-- whether other obstacles screen in a band than in the band before
abbrev pub renewed_at : Band → Surroundings → Bool
renewed_at band around = slice_index_or around.renewed (place_of band) false

-- what a source and a receiver read of the parts of a scene
abbrev pub surroundings_of : Book → Source → Receiver → Surroundings
surroundings_of book s r = record {
  zones = zones_on (path_of s r) book.zones;
  foliage = foliage_on (path_of s r) book.foliage;
  edges = edges_on (ends_of s r) book.obstacles;
  laterals = lateral_paths_round (ends_of s r) book.obstacles;
  renewed = renewals (ends_of s r) book.obstacles;
  reflected = reflected_paths book (ends_of s r);
}
