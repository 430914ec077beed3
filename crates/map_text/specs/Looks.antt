-- The rows of a settle or a look.
use Rattle.std.specs.Prelude.{ℕ, Bool, true, false, List, [], ◌∷◌, map, flat_map, length, slice_index}
use Rattle.scene_geom.specs.Bands.{all_bands}
use Rattle.scene_geom.specs.declared.band.Band.{Band}
use Rattle.path_calc.specs.Levels.{Levels, level_in}
use Rattle.map_board.specs.declared.answers.Shown.{Shown}
use Rattle.map_board.specs.declared.answers.Shown.TheVariants.{Current, Stale, New}
use Rattle.map_board.specs.declared.looks.LookAll.{LookAll}
use Rattle.map_board.specs.declared.looks.LookRow.{LookRow}
use Rattle.map_text.specs.declared.heads.Head.{Head}
use Rattle.map_text.specs.Rows.{head_row, current_row, stale_row, new_row, band_row, counts_row}

-- ---- a receiver

-- the row of a band, with the level there
abbrev pub row_of_band : ℕ → List ℕ → Levels → Band → List ℕ
row_of_band version name levels band = band_row version name band (level_in band levels)

-- those of all eight bands
abbrev pub band_rows : ℕ → List ℕ → Levels → List (List ℕ)
band_rows version name levels = map (row_of_band version name levels) all_bands

-- the row of what is shown of a receiver in a look at a version
abbrev pub shown_row : ℕ → List ℕ → Shown → List ℕ
shown_row version name (Current levels) = current_row version name levels.total
shown_row version name (Stale kept by levels) = stale_row kept name by levels.total
shown_row version name (New since) = new_row since name

-- the rows of the bands of the levels that are shown, if any are, at the version that gave them
abbrev pub shown_bands : ℕ → List ℕ → Shown → List (List ℕ)
shown_bands version name (Current levels) = band_rows version name levels
shown_bands version name (Stale kept by levels) = band_rows kept name levels
shown_bands version name (New since) = []

-- those, where they are asked for
abbrev pub bands_asked : Bool → ℕ → List ℕ → Shown → List (List ℕ)
bands_asked false version name shown = []
bands_asked true version name shown = shown_bands version name shown

-- the row of a receiver in a look at a version
abbrev pub receiver_row : ℕ → LookRow → List ℕ
receiver_row version row = shown_row version row.name row.shown

-- and behind it those of its bands, where they are asked for
abbrev pub receiver_rows : Bool → ℕ → LookRow → List (List ℕ)
receiver_rows bands version row = receiver_row version row ∷ bands_asked bands version row.name row.shown

-- ---- all receivers

-- the rows of a look: its head, and those of each receiver, those of bands among them where they are asked for
unfoldable pub look_rows : Head → Bool → LookAll → List (List ℕ)
look_rows head bands look =
    head_row head look.version (length look.rows) ∷ flat_map (receiver_rows bands look.version) look.rows

-- the row of counts behind those of a settle, where it is asked for
abbrev pub counts_rows : Bool → LookAll → List (List ℕ)
counts_rows false look = []
counts_rows true look =
    counts_row look.version (length look.rows) (slice_index look.counts 0) (slice_index look.counts 1)
    (slice_index look.counts 2) (slice_index look.counts 3)
    ∷ []
