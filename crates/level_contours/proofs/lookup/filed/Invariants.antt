-- The receivers behind are found by their names.
use Rattle.std.proofs.Common.{◌≡◌, ℕ, List, drop}
use Rattle.std.specs.Prelude.{option_map}
use Rattle.std.specs.Map.{lookup}
use Rattle.scene_book.specs.Lists.{named}
use Rattle.level_contours.specs.inner.Filing.{is_key}
use Rattle.level_contours.proofs.lookup.filed.Given as goal

abbrev pub invariant-loop-place : goal.invariant-loop-place
invariant-loop-place l =
    (name : List ℕ) → lookup (is_key name) l.names.entries
    ≡ option_map (λ r. tt) (named (λ r. r.name) name (drop l.place l.receivers))
