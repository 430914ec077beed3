-- What stands between the code and the definitions of cells. What is found by a name among entries.
use Rattle.std.specs.Prelude.{ℕ, ℤ, Bool, not, is_some, unwrap_or, bytes_eq, List, Vec}
use Rattle.std.specs.Map.{lookup}
use Rattle.std.specs.declared.alloc.Global.{Global}
use Rattle.fix_interval.specs.Interval.{Interval, All}
use Rattle.cell_loops.specs.declared.kinds.Cell.{Cell}
use Rattle.level_contours.specs.Comparing.{cell_of}

-- whether a key has these bytes
abbrev pub is_key : List ℕ → Vec ℕ Global → Bool
is_key name key = bytes_eq name key.items

-- the cell of a name, by what is known of each
unfoldable pub cell_found : List (Vec ℕ Global × Interval) → ℤ → List ℕ → Cell
cell_found entries level name = cell_of (unwrap_or (lookup (is_key name) entries) All) level

-- whether there is nothing of a name
unfoldable pub is_absent : List (Vec ℕ Global × Unit {0}) → List ℕ → Bool
is_absent entries name = not (is_some (lookup (is_key name) entries))
