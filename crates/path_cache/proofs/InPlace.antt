-- Kept bundles that stand in their places, and new ones that are put in theirs.
use Rattle.std.proofs.Common.{◌≡◌, ℕ, ◌+◌, ◌<◌, List, [], ◌∷◌, ◌++◌, length, drop, take, refl, sym, ap, ◌∙◌, arith}
use Rattle.std.specs.Prelude.{slice_get}
use Rattle.std.specs.Option.{option_to_list}
use Rattle.std.proofs.lemmas.List.{take_more, take_more_set, drop-set-lt, length-set}
use Rattle.path_calc.specs.Bundles.{Bundle}
use Rattle.path_cache.specs.declared.origins.Origin.{Origin}
use Rattle.path_cache.specs.declared.origins.Origin.TheVariants.{Kept, New}
use Rattle.path_cache.specs.Origins.{bundle_from}
use Rattle.path_cache.specs.inner.Origins.{placed_at, StandsAt}
use Rattle.path_cache.proofs.Ascending.{drop-here, some-at, behind-it, there-is}

-- Bundles of which those from a place on are the kept ones, with that of an origin at this place: up to it and behind it
pub placed : (kept bundles : List Bundle) (place : ℕ) (origin : Origin) → StandsAt place origin → place < length bundles → drop place bundles ≡ drop place kept
    → (take (place + 1) (placed_at place origin bundles) ≡ take place bundles ++ bundle_from kept origin)
    × (drop (place + 1) (placed_at place origin bundles) ≡ drop (place + 1) kept)
placed kept bundles place (Kept k) stands below left =
    let some = some-at bundles place below in
    let here : drop place kept ≡ some.0 ∷ drop (place + 1) bundles = sym left ∙ drop-here bundles place some.0 below some.1 in
    let front = take place bundles in (
      take_more bundles place some.0 below
          ∙ ap (λ b. front ++ b ∷ []) (sym some.1)
          ∙ ap (λ o. front ++ option_to_list o) (sym (there-is kept place some.0 (drop (place + 1) bundles) here))
          ∙ ap (λ p. front ++ option_to_list (slice_get kept p)) (sym stands),
      sym (behind-it kept place some.0 (drop (place + 1) bundles) here),
    )
placed kept bundles place (New b) stands below left =
    let some = some-at bundles place below in
    let here : drop place kept ≡ some.0 ∷ drop (place + 1) bundles = sym left ∙ drop-here bundles place some.0 below some.1 in
    (take_more_set bundles place b.value below, drop-set-lt (place + 1) bundles place b.value (omega arith) ∙ sym (behind-it kept place some.0 (drop (place + 1) bundles) here))

pub as-many : (place : ℕ) (origin : Origin) (bundles : List Bundle) → length (placed_at place origin bundles) ≡ length bundles
as-many place (Kept k) bundles = refl
as-many place (New b) bundles = length-set bundles place b.value
