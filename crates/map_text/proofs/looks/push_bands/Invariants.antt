-- The rows of the bands so far are added.
use Rattle.std.proofs.Common.{◌≡◌, ◌++◌, map, take}
use Rattle.map_text.specs.Looks.{row_of_band}
use Rattle.map_text.proofs.looks.push_bands.Given as goal

abbrev pub invariant-loop-band : goal.invariant-loop-band
invariant-loop-band l =
    l.rows.items ≡ l.initial.rows.items ++ map (row_of_band l.version l.name l.levels) (take l.band-index l.bands)
