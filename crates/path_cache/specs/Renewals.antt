-- Between code and definitions: refreshes for which all was calculated, before the kept bundles move.
use Rattle.std.specs.Prelude.{◌≡◌, ℕ, ◌<◌, ◌≤◌, Bool, true, false, List, [], ◌∷◌, length, All, slice_set, Vec, vec_capacity}
use Rattle.std.specs.declared.alloc.Global.{Global}
use Rattle.path_calc.specs.Bundles.{Bundle}
use Rattle.path_cache.specs.declared.origins.Origin.{Origin}
use Rattle.path_cache.specs.declared.replacing.Replaced.{Replaced}
use Rattle.path_cache.specs.declared.renewing.Way.{Way}
use Rattle.path_cache.specs.declared.renewing.Way.TheVariants.{Anew, InPlace}
use Rattle.path_cache.specs.declared.renewing.Renewed.{Renewed}
use Rattle.path_cache.specs.Sums.{Fits}
use Rattle.path_cache.specs.Origins.{Ascend, bundles_from}

-- the kept bundles with new ones, each in its place
abbrev pub with_each : List Replaced → List Bundle → List Bundle
with_each [] kept = kept
with_each (new ∷ news) kept = with_each news (slice_set kept new.place new.bundle.value)

-- with these kept bundles some origins give these, and there is room for them
pub record Gathers (origins : List Origin) (room : Vec Bundle Global) (kept bundles : List Bundle) : Type 0 where
  pub given : bundles_from kept origins ≡ bundles
  pub ascend : Ascend 0 origins (length kept)
  pub empty : room.items ≡ []
  pub enough : length origins ≤ vec_capacity room

-- so do new bundles in the places of some of so many kept ones
pub record Replaces (news : List Replaced) (count : ℕ) (kept bundles : List Bundle) : Type 0 where
  pub given : with_each news kept ≡ bundles
  pub places : All (λ new. new.place < length kept) news
  pub counted : count ≡ length kept

-- so does either way
abbrev pub Leads : Way → List Bundle → List Bundle → Type 0
Leads (Anew origins room) kept bundles = Gathers origins.items room kept bundles
Leads (InPlace news count) kept bundles = Replaces news.items count kept bundles

-- with these kept bundles a refresh gives these, and it has their sums
pub record Gives (renewed : Renewed) (kept bundles : List Bundle) : Type 0 where
  pub way : Leads renewed.way kept bundles
  pub fit : Fits renewed.sums bundles

-- each kept bundle that stands stays in its place
abbrev pub is_in_place : Renewed → Bool
is_in_place renewed = elim renewed.way [ Anew origins room ↦ false | InPlace news count ↦ true ]
