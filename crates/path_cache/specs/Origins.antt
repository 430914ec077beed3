-- Where each bundle of a refreshed row comes from.
use Rattle.std.specs.Prelude.{ℕ, suc, ◌≤◌, List, [], ◌∷◌, flat_map, slice_get}
use Rattle.std.specs.Option.{option_to_list}
use Rattle.path_calc.specs.Bundles.{Bundle}
use Rattle.path_cache.specs.declared.origins.Origin.{Origin}
use Rattle.path_cache.specs.declared.origins.Origin.TheVariants.{Kept, New}

-- the bundle of an origin: the kept one at a place, or one that was calculated, or copied of a kept one out of order
abbrev pub bundle_from : List Bundle → Origin → List Bundle
bundle_from kept (Kept place) = option_to_list (slice_get kept place)
bundle_from kept (New bundle) = bundle.value ∷ []

abbrev pub bundles_from : List Bundle → List Origin → List Bundle
bundles_from kept origins = flat_map (bundle_from kept) origins

-- the places of kept bundles ascend, from a place on up to another
abbrev pub Ascend : ℕ → List Origin → ℕ → Type 0
Ascend from [] to = from ≤ to
Ascend from (Kept place ∷ origins) to = (from ≤ place) × Ascend (suc place) origins to
Ascend from (New bundle ∷ origins) to = Ascend from origins to
