-- What holds of energies and levels beyond their definitions.
use Rattle.std.specs.Prelude.{◌≡◌, List, [], map, slice_index_or}
use Rattle.std.specs.List.{list_any}
use Rattle.fix_interval.specs.Encloses.{Encloses}
use Rattle.fix_interval.specs.Tree.{enc}
use Rattle.scene_parts.specs.Parts.{Source, Receiver, Obstacle, Globals}
use Rattle.scene_book.specs.Book.{Book}
use Rattle.scene_geom.specs.declared.band.Band.{Band}
use Rattle.scene_geom.specs.declared.plan.Side.{Side}
use Rattle.scene_geom.specs.declared.reflection.Reflection.{Reflection}
use Rattle.scene_geom.specs.Bands.{all_bands, place_of}
use Rattle.scene_parts.specs.declared.screening.ends.Ends.{Ends}
use Rattle.scene_parts.specs.declared.screening.crossing.Crossing.{Crossing}
use Rattle.scene_parts.specs.Crossings.{cut_of}
use Rattle.sight_cut.specs.Cuts.{cuts_of, screens_in}
use Rattle.image_source.specs.declared.leg.Leg.{Leg}
use Rattle.image_source.specs.LegCuts.{leg_cut_of, leg_cuts_of}
use Rattle.path_calc.specs.ReflectedPaths.{ReflectedPath, along_legs}
use Rattle.path_calc.specs.Surroundings.{Surroundings, ends_of, edges_at, surroundings_of}
use Rattle.path_calc.specs.Energies.{band_energy, long_energy}
use Rattle.path_calc.specs.Bundles.{bundle_of}
use Rattle.path_calc.specs.Levels.{level_in}
use Rattle.path_calc.specs.Show.{show_of, total_form, band_form}

-- the interval of the energy in a band encloses it
abbrev pub BandsAreEnclosed : Type 0
BandsAreEnclosed = (globals : Globals) (around : Surroundings) (s : Source) (r : Receiver) (band : Band)
    → Encloses (band_energy globals around s r band) (enc (band_energy globals around s r band))

-- and so does that of the long-term energy
abbrev pub LongIsEnclosed : Type 0
LongIsEnclosed = (globals : Globals) (around : Surroundings) (s : Source) (r : Receiver)
    → Encloses (long_energy globals around s r) (enc (long_energy globals around s r))

-- what the map shows of a receiver: of each level the interval of its whole formula, which it encloses
pub record LevelsAreEnclosed (book : Book) (r : Receiver) : Type 0 where
  pub total : (show_of book r).total ≡ enc (total_form book r)
  pub total_enclosed : Encloses (total_form book r) (show_of book r).total
  pub bands : (show_of book r).bands ≡ map (λ band. enc (band_form book r band)) all_bands
  pub bands_enclosed : (band : Band) → Encloses (band_form book r band) (level_in band (show_of book r))

-- a bundle is the same in two scenes with the same globals in which source and receiver read the same of the parts
abbrev pub SameBetween : Type 0
SameBetween = (a b : Book) (s : Source) (r : Receiver) → a.globals ≡ b.globals
    → surroundings_of a s r ≡ surroundings_of b s r → bundle_of a s r ≡ bundle_of b s r

-- The edges that source and receiver read in a band are those of its cuts, and tell whether an obstacle screens there.
pub record EdgesAreCuts (book : Book) (s : Source) (r : Receiver) (band : Band) : Type 0 where
  -- sides that cross the line of sight, whose edges are the edges and whose cuts are the cuts, in the same order
  pub crossings : List Crossing
  pub edges : edges_at band (surroundings_of book s r) ≡ map (λ c. c.edge) crossings
  pub cuts : cuts_of band (ends_of s r) book.obstacles ≡ map cut_of crossings
  -- some obstacle screens exactly where one of the edges rises above the line of sight
  pub screens : list_any (screens_in band (ends_of s r)) book.obstacles
      ≡ list_any (λ edge. edge.above) (edges_at band (surroundings_of book s r))

-- So are the edges that are read on the legs of a reflected path: those of its leg cuts, in the same order.
pub record LegEdgesAreCuts (obstacles : List Obstacle) (path : ReflectedPath) (ends : Ends) (band : Band) : Type 0 where
  pub crossings : List (Leg × Crossing)
  pub edges : slice_index_or path.edges (place_of band) [] ≡ map (λ c. c.1.edge) crossings
  pub cuts : leg_cuts_of band path.unfolded ends obstacles ≡ map leg_cut_of crossings

abbrev pub ReflectedEdgesAreCuts : Type 0
ReflectedEdgesAreCuts = (book : Book) (ends : Ends) (o : Obstacle) (side : Side) (unfolded : Reflection) (band : Band)
    → LegEdgesAreCuts book.obstacles (along_legs book ends o side unfolded) ends band
