-- What a refresh adds for one source of the scene.
use Rattle.std.specs.Prelude.{ℕ, Bool, ◌&&◌, List, [], ◌∷◌, if◌then◌else◌}
use Rattle.scene_parts.specs.Parts.{Source, Receiver}
use Rattle.scene_book.specs.Book.{Book}
use Rattle.path_calc.specs.Lengths.{is_within}
use Rattle.path_calc.specs.Bundles.{Bundle}
use Rattle.path_cache.specs.Refreshed.{refreshed_bundle, is_wanted}

-- its bundle, if it is within reach
abbrev pub refreshed_of_one : Book → Receiver → List Bundle → List Bool → Source → List Bundle
refreshed_of_one book r kept marks s =
    if is_within book.globals.reach s.at r.at then refreshed_bundle book r kept marks s ∷ [] else []

-- the steps for it
abbrev pub steps_of_one : Book → Receiver → List Bundle → List Bool → Source → ℕ
steps_of_one book r kept marks s =
    if is_within book.globals.reach s.at r.at then (if is_wanted kept marks s then 1 else 0) else 0

-- it is within reach, and its bundle is marked or missing
abbrev pub needs_path : Book → Receiver → List Bundle → List Bool → Source → Bool
needs_path book r kept marks s = is_within book.globals.reach s.at r.at && is_wanted kept marks s
