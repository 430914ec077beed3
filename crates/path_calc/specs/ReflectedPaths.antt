-- The ways by reflecting walls (ISO 9613-2, 7.5), as a source and a receiver read them: one for each side of a barrier
-- or a building that mirrors the source to the receiver, in the order of obstacles and sides.
use Rattle.std.specs.Prelude.{ℕ, List, map, flat_map, Option}
use Rattle.std.specs.List.{filter_map}
use Rattle.std.specs.Option.{option_map}
use Rattle.fix_interval.specs.Tree.{enc}
use Rattle.scene_geom.specs.declared.plan.Side.{Side}
use Rattle.scene_geom.specs.declared.reflection.Reflection.{Reflection}
use Rattle.scene_geom.specs.Bands.{all_bands}
use Rattle.scene_parts.specs.Parts.{Obstacle, Zone, Foliage, sides_of}
use Rattle.scene_book.specs.Book.{Book}
use Rattle.path_shape.specs.Shape.{length_of}
use Rattle.scene_parts.specs.declared.screening.edge.Edge.{Edge}
use Rattle.path_shape.specs.declared.path.Path.{Path}
use Rattle.path_shape.specs.declared.legs.Legs.TheVariants.{Two}
use Rattle.scene_parts.specs.declared.screening.ends.Ends.{Ends}
use Rattle.image_source.specs.Mirrors.{mirror_of}
use Rattle.image_source.specs.LegCuts.{edges_in}
use Rattle.path_calc.specs.GroundZones.{zones_on, foliage_on}

-- a reflected path: the side of the wall, what it reflects per mille, its height in mm, and the unfolded path with its
-- two legs; for each band the edges on them, of the obstacles that are large enough in it; and the zones of ground and
-- the foliage that a leg meets
pub record ReflectedPath : Type 0 where
  pub side : Side
  pub rho : ℕ
  pub h : ℕ
  pub unfolded : Reflection
  pub edges : List (List Edge)
  pub zones : List Zone
  pub foliage : List Foliage

-- an unfolded path between the ends of a line of sight, with its own plan length
abbrev pub path_along : Ends → Reflection → Path
path_along ends unfolded = record {
  s = ends.s;
  hs = ends.hs;
  r = ends.r;
  hr = ends.hr;
  dp = enc (length_of unfolded.square);
  legs = Two unfolded.first unfolded.second unfolded.p;
}

-- a reflection in a side of an obstacle, with what is read of the parts of a scene along it
abbrev pub along_legs : Book → Ends → Obstacle → Side → Reflection → ReflectedPath
along_legs book ends o side unfolded = record {
  side = side;
  rho = o.rho;
  h = o.h;
  unfolded = unfolded;
  edges = map (λ band. edges_in band unfolded ends book.obstacles) all_bands;
  zones = zones_on (path_along ends unfolded) book.zones;
  foliage = foliage_on (path_along ends unfolded) book.foliage;
}

-- the path by way of a side of an obstacle, where it reflects
abbrev pub reflected_in : Book → Ends → Obstacle → Side → Option ReflectedPath
reflected_in book ends o side = option_map (along_legs book ends o side) (mirror_of o side ends)

-- those by way of the sides of an obstacle, and of all obstacles
abbrev pub reflected_by : Book → Ends → Obstacle → List ReflectedPath
reflected_by book ends o = filter_map (reflected_in book ends o) (sides_of o)

abbrev pub reflected_paths : Book → Ends → List ReflectedPath
reflected_paths book ends = flat_map (reflected_by book ends) book.obstacles
