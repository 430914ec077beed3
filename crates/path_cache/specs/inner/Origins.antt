-- Where bundles stand among the sources of a scene.
use Rattle.std.specs.Prelude.{◌≡◌, ℕ, suc, ◌<◌, ◌≤◌, List, Some, slice_get, slice_set}
use Rattle.path_calc.specs.Bundles.{Bundle}
use Rattle.path_cache.specs.declared.origins.Origin.{Origin}
use Rattle.path_cache.specs.declared.origins.Origin.TheVariants.{Kept, New}

-- the place of a kept bundle is among so many, and from a place on
abbrev pub IsBetween : ℕ → ℕ → Origin → Type 0
IsBetween from count (Kept place) = (from ≤ place) × (place < count)
IsBetween from count (New bundle) = Unit {0}

-- the first place behind that of an origin
abbrev pub place_after : ℕ → Origin → ℕ
place_after from (Kept place) = suc place
place_after from (New bundle) = from

-- an origin is new, or that of the kept bundle at a place
abbrev pub StandsAt : ℕ → Origin → Type 0
StandsAt place (Kept kept) = kept ≡ place
StandsAt place (New bundle) = Unit {0}

-- so is each of some origins at its own place
abbrev pub StandInPlace : List Origin → Type 0
StandInPlace origins = (place : ℕ) (origin : Origin) → slice_get origins place ≡ Some origin → StandsAt place origin

-- the bundles with that of an origin at a place, where a kept one stands already
abbrev pub placed_at : ℕ → Origin → List Bundle → List Bundle
placed_at place (Kept kept) bundles = bundles
placed_at place (New bundle) bundles = slice_set bundles place bundle.value
