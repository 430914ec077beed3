-- Those so far stand in their places.
use Rattle.std.proofs.Common.{◌≡◌, ℕ, ◌<◌}
use Rattle.std.specs.Prelude.{Some, slice_get}
use Rattle.path_cache.specs.declared.origins.Origin.{Origin}
use Rattle.path_cache.specs.inner.Origins.{StandsAt}
use Rattle.path_cache.proofs.renewing.stand_in_place.Given as goal

abbrev pub invariant-loop-place : goal.invariant-loop-place
invariant-loop-place l = (k : ℕ) (origin : Origin) → k < l.place → slice_get l.origins k ≡ Some origin → StandsAt k origin
