-- The rows behind are found by their names.
use Rattle.std.proofs.Common.{◌≡◌, ℕ, List, drop}
use Rattle.std.specs.Prelude.{option_map}
use Rattle.std.specs.Map.{lookup}
use Rattle.scene_book.specs.Lists.{named}
use Rattle.level_contours.specs.Looking.{known_total}
use Rattle.level_contours.specs.inner.Filing.{is_key}
use Rattle.level_contours.proofs.lookup.totals.Given as goal

abbrev pub invariant-loop-place : goal.invariant-loop-place
invariant-loop-place l =
    (name : List ℕ) → lookup (is_key name) l.totals.entries
    ≡ option_map (λ row. known_total row.shown) (named (λ row. row.name) name (drop l.place l.rows))
