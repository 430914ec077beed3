-- What every scene keeps that edits made, and what every edit keeps.
use Rattle.std.specs.Prelude.{ℕ, ◌≤◌, List, length, option_map, All}
use Rattle.std.specs.Option.{option_to_list}
use Rattle.scene_parts.specs.Limits.{most_corners, most_columns}
use Rattle.scene_parts.specs.Parts.{Zone, Foliage, Grid, AreGlobals, IsSetting}
use Rattle.scene_parts.specs.declared.parts.Part.{Part}
use Rattle.scene_parts.specs.declared.parts.Part.TheVariants as parts
use Rattle.scene_book.specs.declared.edits.Edit.{Edit}
use Rattle.scene_book.specs.declared.edits.Edit.TheVariants as edits
use Rattle.scene_book.specs.Lists.{named}
use Rattle.scene_book.specs.Book.{Book, IsWithin, NamesAreApart, of_slots}

-- the parts that bear a name: of each list the first
abbrev pub bearers : Book → List ℕ → List Part
bearers book name =
    of_slots (λ A slot. option_to_list (option_map slot.part_of (named slot.name_of name (slot.list_of book))))

-- no name is borne by parts of two lists
abbrev pub HasOneNameSpace : Book → Type 0
HasOneNameSpace book = (name : List ℕ) → length (bearers book name) ≤ 1

-- a zone within the limits of its corners and its ground factor
pub record IsZoneWithin (zone : Zone) : Type 0 where
  pub few : length zone.points ≤ most_corners
  pub ground_factor : zone.g ≤ 100

-- a foliage within the limit of its corners
pub record IsFoliageWithin (foliage : Foliage) : Type 0 where
  pub few : length foliage.points ≤ most_corners

-- a grid within the limits of its columns and rows
pub record IsGridWithin (grid : Grid) : Type 0 where
  pub columns : grid.columns ≤ most_columns
  pub rows : grid.rows ≤ most_columns

-- a scene that edits made: within the limits, each name borne by one part alone, zones, foliage and
-- globals in their ranges
pub record IsScene (book : Book) : Type 0 where
  pub within : IsWithin book
  pub apart : NamesAreApart book
  pub one : HasOneNameSpace book
  pub zones : All IsZoneWithin book.zones
  pub foliage : All IsFoliageWithin book.foliage
  pub globals : AreGlobals book.globals

-- an edit whose zone, foliage, grid or setting is in its ranges
abbrev pub IsEdit : Edit → Type 0
IsEdit (edits.Put (parts.Zone zone)) = IsZoneWithin zone
IsEdit (edits.Put (parts.Foliage foliage)) = IsFoliageWithin foliage
IsEdit (edits.Grid grid) = IsGridWithin grid
IsEdit (edits.Set setting) = IsSetting setting
IsEdit other = Unit {0}
