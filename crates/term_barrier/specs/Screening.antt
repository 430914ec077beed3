-- The attenuation by screening over the top (ISO 9613-2, 7.4, equations 12 and 14), in dB, from the edges that the path
-- passes.
use Rattle.std.specs.Prelude.{List, [], ◌∷◌, ◌++◌, map, filter, flat_map, Bool, if◌then◌else◌, unwrap_or}
use Rattle.std.specs.List.{reduce, list_any}
use Rattle.fix_interval.specs.Interval.{Interval}
use Rattle.fix_interval.specs.Tree.{Tree, Sub, Max, Pick}
use Rattle.scene_geom.specs.declared.band.Band.{Band}
use Rattle.scene_parts.specs.declared.screening.edge.Edge.{Edge}
use Rattle.path_shape.specs.declared.path.Path.{Path}
use Rattle.term_barrier.specs.declared.single.SingleDiffraction.{SingleDiffraction}
use Rattle.term_barrier.specs.Diffraction.{whole, attenuation, single_limit}
use Rattle.term_barrier.specs.Edges.{single_argument, single_attenuation, pair_attenuation}

-- a path, the edges that it passes, and how far source and receiver are apart
pub record Passing : Type 0 where
  pub path : Path
  pub edges : List Edge
  pub d : Interval

-- the edges of those that were prepared, each alone
abbrev pub edges_in : List SingleDiffraction → List Edge
edges_in singles = map (λ single. single.passage.edge) singles

-- ---- which edges count

-- those of some things that are marked by true
abbrev pub marked : {A : Type 0} → List Bool → List A → List A
marked [] things = []
marked (mark ∷ marks) [] = []
marked (mark ∷ marks) (thing ∷ things) = if mark then thing ∷ marked marks things else marked marks things

abbrev pub is_above : Edge → Bool
is_above edge = edge.above

-- the edges that rise above the line of sight
abbrev pub edges_above : List Edge → List Edge
edges_above edges = filter is_above edges

-- two things in either order
abbrev pub both_ways : {A : Type 0} → A → A → List (A × A)
both_ways a b = (a, b) ∷ (b, a) ∷ []

-- all ordered pairs of things at different places of a list
abbrev pub pairs_of : {A : Type 0} → List A → List (A × A)
pairs_of [] = []
pairs_of (thing ∷ others) = flat_map (both_ways thing) others ++ pairs_of others

-- ---- what they attenuate

-- the greatest of some quantities, and of none 0
abbrev pub greatest : List Tree → Tree
greatest quantities = unwrap_or (reduce Max quantities) (whole 0)

-- D_z of each edge that rises above the line of sight, and of each two of them
abbrev pub top_attenuations : Path → Tree → List Edge → Tree → Band → List Tree
top_attenuations path dp edges d band =
    map (λ edge. single_attenuation path edge d band) (edges_above edges)
    ++ map (λ pair. pair_attenuation path dp pair.0 pair.1 d band) (pairs_of (edges_above edges))

-- D_z over the top
abbrev pub top_attenuation : Path → Tree → List Edge → Tree → Band → Tree
top_attenuation path dp edges d band = greatest (top_attenuations path dp edges d band)

-- what stands under the logarithm of each edge alone
abbrev pub single_arguments : Path → List Edge → Tree → Band → List Tree
single_arguments path edges d band = map (λ edge. single_argument path edge d band) edges

-- D_z less the attenuation by the ground, which the screen takes away (equation 12)
abbrev pub less_ground : Tree → Tree → Tree
less_ground d_z gr = Max (whole 0) (Sub d_z gr)

-- A_bar where no edge rises above the line of sight, with the greatest that stands under a logarithm
abbrev pub grazing : Tree → Tree → Tree
grazing b gr = Pick b (whole 1) (less_ground (attenuation single_limit b) gr) (whole 0)

-- A_bar (equation 12) of a path, where it is dp long in plan, source and receiver are d apart, the ground attenuates by
-- gr, and these are the edges of all obstacles that are large enough in the band
abbrev pub screening : Path → Tree → List Edge → Tree → Tree → Band → Tree
screening path dp [] d gr band = whole 0
screening path dp (edge ∷ edges) d gr band =
    if list_any is_above (edge ∷ edges)
    then less_ground (top_attenuation path dp (edge ∷ edges) d band) gr
    else grazing (greatest (single_arguments path (edge ∷ edges) d band)) gr
