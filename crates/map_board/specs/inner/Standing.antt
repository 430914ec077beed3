-- Rows whose bundles stand as the sources of the scene do: one of each, in their order.
use Rattle.std.specs.Prelude.{◌≡◌, ℕ, ◌≤◌, List, length, map, IfSome}
use Rattle.scene_book.specs.Book.{Book}
use Rattle.scene_book.specs.declared.edits.Edit.{Edit}
use Rattle.path_cache.specs.Standing.{AreOfEach}
use Rattle.map_board.specs.declared.rows.caches.Cache.{Cache}
use Rattle.map_board.specs.Journal.{scene_at, newest_scene}

-- the names of the sources of a scene, in their order
abbrev pub source_names : Book → List (List ℕ)
source_names book = map (λ s. s.name) book.sources

-- since a version no edit changed them
abbrev pub NamesStand : List Edit → ℕ → Type 0
NamesStand journal since =
    (version : ℕ) → since ≤ version → version ≤ length journal
    → source_names (scene_at journal version) ≡ source_names (newest_scene journal)

-- in the scene of the version that is noted for a row, its bundles were of each source
abbrev pub IsOrdered : List Edit → Cache → Type 0
IsOrdered journal cache =
    IfSome cache.order
    (λ version. (version ≤ length journal) × AreOfEach (scene_at journal version).sources cache.bundles.items)
